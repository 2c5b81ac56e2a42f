-- `reading6250::walker::GroupWalker::judged` meets its contract: the group is the definition's, and so is what is told of it.
-- Assumes nothing.
use Rattle.std.specs.Prelude.{Result, Err}
use Rattle.std.proofs.lemmas.Result.{err_from_is_err_and}
use mathlib.Core.Path.{◌≡◌, sym, ap, ap₂, ◌∙◌}
use mathlib.Core.Bool.{true, false≢true}
use native.Mathlib.Omega.{arith}
use lib.Bits.{bit_or}
use Rattle.rectangular.specs.Correction.{corrected}
use Rattle.judge6250.specs.Told.{told_judged, told_changed, changed_by}
use Rattle.judge6250.specs.declared.errors.Unfit.{Unfit}
use Rattle.judge6250.specs.declared.errors.Unfit.TheVariants.{ManyPointed, NoGroup}
use Rattle.judge6250.specs.declared.judge.Correction.{Correction}
use Rattle.group6250.specs.Packed.{values_of}
use Rattle.record6250.specs.Group.{illegal_map, is_corrected}
use Rattle.reading6250.proofs.GroupJudged.{lent_below, lent_group, lent_map, value_at_lem, pointers_lt, judgement_told, changed_told}
use Rattle.record6250.proofs.Reading.{words_long, map_below}
use Rattle.reading6250.proofs.walker.GroupWalker.judged.Goals as goal

pub overflow_mul-place : goal.overflow_mul-place
overflow_mul-place c =
    let args = c.args in
    omega (arith, c.turned_place-place.ensures.within, words_long args.backward args.self.now.words.now args.maps.now c.requires.0)

pub receive-received-requires : goal.receive-received-requires
receive-received-requires c =
    let b = c.args.backward in
    let words = c.args.self.now.words.now in
    let maps = c.args.maps.now in (
      omega (arith, c.turned_place-place.ensures.within, words_long b words maps c.requires.0),
      lent_below b words maps c.requires.0,
    )

pub judge-requires : goal.judge-requires
judge-requires c =
    let received = c.receive-received in
    let place = c.turned_place-place in
    let b = c.args.backward in
    let words = c.args.self.now.words.now in
    let maps = c.args.maps.now in
    let g = c.args.self.now.group in
    pointers_lt b words maps g place.result place.ensures.place _ _ received.ensures.values received.ensures.illegal
    (rw (lent_map b words maps g place.result place.ensures.place) (map_below b words maps c.requires.0 g c.requires.1))

-- a reason is passed on, and then nothing is told as changed
is_unfit : (unfit : Unfit) → is_corrected (told_judged (Err unfit)) ≡ true → ⊥
unfolding is_corrected
is_unfit ManyPointed q = false≢true q
is_unfit NoGroup q = false≢true q

pub returns-in_err-right : goal.returns-in_err-right
returns-in_err-right c =
    let received = c.receive-received in
    let place = c.turned_place-place in
    let unfit = c.in_err-right.field-0.0 in
    let gives = err_from_is_err_and c.from_residual.result c.from_residual.ensures.1 in
    let is : c.from_residual.result ≡ Err unfit = gives.1 ∙ ap Err gives.2 in
    let fits = judgement_told _ _ _ _ _ place.ensures.place _ _ received.ensures.values received.ensures.illegal in
    record {
      told = ap told_judged (is ∙ sym c.in_err-right.was) ∙ c.judge.ensures.told ∙ fits;
      changed = λ q. absurd (is_unfit unfit (sym (ap (λ (t : Result Correction Unfit). is_corrected (told_judged t)) is) ∙ q));
    }

pub returns : goal.returns
unfolding changed_by
returns c =
    let received = c.receive-received in
    let place = c.turned_place-place in
    let b = c.args.backward in
    let words = c.args.self.now.words.now in
    let maps = c.args.maps.now in
    let g = c.args.self.now.group in
    let right = c.in_ok-right.right in
    let fits = judgement_told b words maps g place.result place.ensures.place _ _ received.ensures.values received.ensures.illegal in
    let told : corrected (values_of right.group) ≡ _ = sym (ap told_judged c.in_ok-right.was) ∙ c.judge.ensures.told ∙ fits in record {
      told = told;
      changed = λ q.
          ap₂ bit_or (sym (ap told_changed c.in_ok-right.was) ∙ c.judge.ensures.changed ∙ ap (changed_by _) (ap told_judged c.in_ok-right.was))
          (received.ensures.illegal ∙ ap illegal_map (lent_group b words maps g place.result place.ensures.place))
          ∙ changed_told b words maps c.requires.0 g c.requires.1 _ (values_of right.group)
          (value_at_lem b words maps g place.result place.ensures.place _ _ received.ensures.values received.ensures.illegal)
          (sym told);
    }
