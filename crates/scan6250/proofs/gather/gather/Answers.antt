-- `scan6250::gather::gather` meets its contract. The loop's invariant: the groups before the walker's fit, their bytes and the maps of
-- their changed tracks are stored, and their changed words are counted.
-- Assumes nothing.
use Rattle.std.specs.Prelude.{Err}
use Rattle.std.proofs.lemmas.Result.{err_from_is_err_and}
use mathlib.Core.Path.{◌≡◌, refl, sym, ap, ap₂, ◌∙◌}
use mathlib.Core.Bool.{true}
use mathlib.Core.List.{List, ◌∷◌}
use Prim.Native.Nat.{ℕ, ◌+◌, ◌<◌, ◌≤◌}
use native.Mathlib.Nat.{not-suc-le-zero}
use native.Mathlib.Omega.{arith}
use lib.ListN.{length, set}
use Rattle.indexed.specs.List.{tabulate, tabulate_from, total, blocks}
use Rattle.indexed.proofs.Part.{next_stored}
use Rattle.indexed.proofs.Total.{total_most}
use Rattle.answer.specs.Answer.{delivered, refused_for, told_refusal}
use Rattle.answer.specs.declared.Reason.{Reason}
use Rattle.rectangular.specs.Constants.{tracks}
use Rattle.judge6250.specs.Told.{told_reason, told_judged}
use Rattle.record6250.specs.Group.{is_corrected, right_bytes}
use Rattle.record6250.specs.Read.{judgement, changed_tracks}
use Rattle.record6250.proofs.FittingGroup.{length_right_bytes}
use Rattle.record6250.proofs.Reading.{groups_within}
use Rattle.indexed.proofs.Below.{one_more_below}
use Rattle.register.proofs.Counts.{first_bits, bits_le, bits_more}
use Rattle.track_counts.proofs.Packed.{holds_same, holds_told, holds_room}
use Rattle.scan6250.specs.Told.{told_gathered, bytes_gathered, maps_gathered}
use Rattle.scan6250.proofs.Scanned.{packed_bytes, told_corrected, told_changed_lem, was_ok, was_err, unfit_told, stopped, ended, all_changes, all_changed, maps_more}
use borrow.Author.Rules.{rules}
use Rattle.scan6250.proofs.gather.gather.Goals as goal

pub loop-walker-init : goal.loop-walker-init
unfolding bytes_gathered maps_gathered blocks tabulate tabulate_from total
loop-walker-init c =
    rw c.new-walker.ensures.1 (search rules, c.new-walker.ensures.0, λ j h. absurd (not-suc-le-zero h), c.none-counts.ensures, refl, refl)

pub with-counts-requires : goal.with-counts-requires
with-counts-requires c =
    let reading = c.args.reading.now in
    let words = reading.words.now in
    let maps = reading.maps.now in
    let b = reading.backward in
    let at = c.loop-walker in
    holds_room _ _ at.invariant.3
    (λ k. omega (arith, bits_le (changed_tracks b words maps) at.walker.group k, (groups_within b words maps c.requires.0).1, c.loop-walker-test.true))

pub advance-requires : goal.advance-requires
advance-requires c =
    let reading = c.args.reading.now in
    omega (arith, (groups_within reading.backward reading.words.now reading.maps.now c.requires.0).1, c.loop-walker-test.true)

pub loop-walker-preserved : goal.loop-walker-preserved
unfolding is_corrected bytes_gathered
loop-walker-preserved c =
    let reading = c.args.reading.now in
    let words = reading.words.now in
    let maps = reading.maps.now in
    let b = reading.backward in
    let at = c.loop-walker in
    let g = at.walker.group in
    let right = c.in_ok-right.right in
    let is = was_ok _ _ _ c.map_err.ensures.cases right c.in_ok-right.was in
    let lent = ap (λ (w : _). w.now) at.invariant.1 in
    let changed = told_changed_lem (changed_tracks b words maps g) c.judged.result right is (rw lent at c.judged.ensures.changed) in
    let fits = told_corrected (judgement b words maps g) c.judged.result right is (rw lent at c.judged.ensures.told) in rw c.advance.ensures.1 (
      search rules,
      c.advance.ensures.0 ∙ at.invariant.1,
      one_more_below g (λ j. is_corrected (judgement b words maps j) ≡ true) at.invariant.2 (ap is_corrected fits),
      holds_same _ _ _ (bits_more (changed_tracks b words maps) g _ changed) (c.with-counts.ensures _ at.invariant.3),
      next_stored 7 (λ g. right_bytes (judgement b words maps g)) (λ k. length_right_bytes (judgement b words maps k)) g
          c.args.body.now at.body _ _ at.invariant.4 (packed_bytes right.group ∙ ap right_bytes (sym fits)) c.unpack.ensures,
      ap (λ (l : List ℕ). set l g right.changed) at.invariant.5
          ∙ maps_more b words maps g c.args.changed.now _ (omega (arith, c.loop-walker-test.true, c.requires.2)) changed,
    )

pub returns-in_err-right : goal.returns-in_err-right
returns-in_err-right c =
    let reading = c.args.reading.now in
    let words = reading.words.now in
    let maps = reading.maps.now in
    let b = reading.backward in
    let at = c.loop-walker in
    let g = at.walker.group in
    let refusal = c.in_err-right.field-0.0 in
    let gives = err_from_is_err_and c.from_residual.result c.from_residual.ensures.1 in
    let is : c.from_residual.result ≡ Err refusal = gives.1 ∙ ap Err gives.2 in
    let was = was_err _ _ _ c.map_err.ensures.cases refusal c.in_err-right.was in
    let unfit = was.0 in
    let met = was.2 in
    let refused : told_refusal refusal ≡ refused_for (told_reason unfit) g = search rules in
    let lent = ap (λ (w : _). w.now) at.invariant.1 in
    let judged = sym (rw lent at c.judged.ensures.told) ∙ ap told_judged was.1 in
    let made = stopped b words maps g at.invariant.2 c.loop-walker-test.true (told_judged (Err unfit)) judged (unfit_told unfit).0 _
    (ap told_gathered is ∙ refused ∙ ap (λ (r : Reason). refused_for r g) (sym (unfit_told unfit).1)) _ _ _ _ at.invariant.4 at.invariant.5 in record {
      told = made.0;
      bytes = made.1.0;
      maps = made.1.1;
    }

pub returns : goal.returns
returns c =
    let reading = c.args.reading.now in
    let words = reading.words.now in
    let maps = reading.maps.now in
    let b = reading.backward in
    let at = c.loop-walker in
    let all : at.walker.group ≡ length maps = omega arith in
    let each : ℕ → ℕ → ℕ = first_bits (changed_tracks b words maps) in
    let few : (k : ℕ) → each at.walker.group k ≤ 586 =
    λ k. omega (arith, bits_le (changed_tracks b words maps) at.walker.group k, all, (groups_within b words maps c.requires.0).1) in
    let low : total 5 (each at.walker.group) < 4095 = omega (arith, total_most 586 5 (each at.walker.group) (λ k h. few k)) in
    let high : total 5 (λ k. each at.walker.group (5 + k)) < 4095 = omega (arith, total_most 586 5 (λ k. each at.walker.group (5 + k)) (λ k h. few (5 + k))) in
    let sum = c.sum.ensures _ at.invariant.3 low high ∙ ap (λ (n : ℕ). total 10 (each n)) all ∙ all_changes b words maps in
    let counts = holds_told _ _ at.invariant.3 (λ k. omega (arith, few k)) ∙ ap (λ (n : ℕ). tabulate tracks (each n)) all ∙ all_changed b words maps in
    let made = ended b words maps (λ j h. at.invariant.2 j (rw all h)) _ (ap₂ (λ (n : ℕ) (l : List ℕ). delivered (n ∷ l)) sum counts) _ _ _ _
    (at.invariant.4 ∙ ap (λ (n : ℕ). bytes_gathered b words maps n c.args.body.now) all)
    (at.invariant.5 ∙ ap (λ (n : ℕ). maps_gathered b words maps n c.args.changed.now) all) in record {
      told = made.0;
      bytes = made.1.0;
      maps = made.1.1;
    }
