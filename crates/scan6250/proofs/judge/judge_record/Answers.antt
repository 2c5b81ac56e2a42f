-- `scan6250::judge::judge_record` meets its contract: each check is the definition's, and what was gathered is as far as it came.
-- Assumes nothing.
use Rattle.std.specs.Prelude.{Option, Some, None, Err}
use Rattle.std.proofs.lemmas.Result.{err_from_is_err_and}
use mathlib.Core.Path.{◌≡◌, refl, sym, ap, ap₂, ◌∙◌}
use mathlib.Core.Bool.{Bool, true, false, cond}
use Prim.Native.Nat.{ℕ, ◌*◌, ◌<◌, ◌≤◌}
use borrow.Author.Tests.{ltb-true, ltb-false}
use lib.Dec.{ltb}
use Rattle.indexed.specs.List.{index_in}
use native.Mathlib.Omega.{arith}
use lib.ListN.{length, take}
use lib.Seq.{length-take-le}
use Rattle.answer.specs.Answer.{refused_for}
use Rattle.answer.specs.declared.Reason.TheVariants.{StrayBits}
use Rattle.record6250.proofs.Answer.{stray_refused, all_passed, passed}
use Rattle.record6250.proofs.Reading.{lengths_told}
use Rattle.scan6250.specs.Told.{told_read, told_gathered, padding_answer}
use Rattle.scan6250.proofs.Padded.{groups_fit, groups_unfit, fit_answer, none_gathered, as_far, body_long, body_in_front}
use Rattle.scan6250.proofs.judge.judge_record.Goals as goal

-- where the first group with a stray bit was found, and where none was
module _ (groups stray : ℕ) where
  found_stray : (place : ℕ) → index_in groups stray ≡ Some place → (stray < groups) × (place ≡ stray)
  found_stray place = by (ltb stray groups) refl
    where
      by : (b : Bool) → ltb stray groups ≡ b → cond b (Some stray) None ≡ Some place → (stray < groups) × (place ≡ stray)
      by true e is = (ltb-true stray groups e, cc)
      by false e is = absurd (cc)

  no_stray : index_in groups stray ≡ None → groups ≤ stray
  no_stray = by (ltb stray groups) refl
    where
      by : (b : Bool) → ltb stray groups ≡ b → ◌≡◌ {A = Option ℕ} (cond b (Some stray) None) None → groups ≤ stray
      by true e is = absurd (cc)
      by false e is = ltb-false stray groups e

pub returns-in-Some : goal.returns-in-Some
returns-in-Some c =
    let reading = c.args.reading.now in
    let words = reading.words.now in
    let maps = reading.maps.now in
    let b = reading.backward in
    let stray = found_stray (length maps) _ c.in-Some.place (sym c.first_stray.ensures ∙ c.in-Some.is) in
    let none = none_gathered b words maps stray.0 c.args.body.now c.args.changed.now in record {
      answer = ap (refused_for StrayBits) stray.1 ∙ sym (stray_refused b words maps true reading.suits refl stray.0);
      bytes = none.0;
      maps = none.1;
    }

pub gather-requires : goal.gather-requires
gather-requires c =
    let reading = c.args.reading.now in
    let late = no_stray (length reading.maps.now) _ (sym c.first_stray.ensures ∙ c.in_default.is) in
    (passed reading.backward reading.words.now reading.maps.now reading.suits late, c.requires.0, c.requires.1)

pub returns-in_err-changes : goal.returns-in_err-changes
returns-in_err-changes c =
    let reading = c.args.reading.now in
    let words = reading.words.now in
    let maps = reading.maps.now in
    let b = reading.backward in
    let late = no_stray (length maps) _ (sym c.first_stray.ensures ∙ c.in_default.is) in
    let refusal = c.in_err-changes.field-0.0 in
    let gives = err_from_is_err_and c.from_residual.result c.from_residual.ensures.1 in
    let is : c.from_residual.result ≡ Err refusal = gives.1 ∙ ap Err gives.2 in
    let far = as_far b words maps late c.gather.new.body c.gather.new.changed _ _ (c.gather.ensures.bytes, c.gather.ensures.maps) in record {
      answer = ap told_read is
          ∙ groups_unfit b words maps _ _ (sym (ap told_gathered c.in_err-changes.was) ∙ c.gather.ensures.told)
          ∙ sym (all_passed b words maps true reading.suits refl late);
      bytes = far.0;
      maps = far.1;
    }

pub padded-requires : goal.padded-requires
padded-requires c =
    let reading = c.args.reading.now in
    let words = reading.words.now in
    let maps = reading.maps.now in
    let b = reading.backward in
    let fits = groups_fit b words maps _ (sym (ap told_gathered c.in_ok-changes.was) ∙ c.gather.ensures.told) in
    let long : length maps * 7 ≤ length c.gather.new.body = rw c.gather.ensures.bytes (body_long b words maps c.args.body.now fits.0) in
    omega (arith, (lengths_told (length words) (length maps) reading.suits).0, length-take-le (length maps * 7) c.gather.new.body long)

pub returns : goal.returns
returns c =
    let reading = c.args.reading.now in
    let words = reading.words.now in
    let maps = reading.maps.now in
    let b = reading.backward in
    let fits = groups_fit b words maps _ (sym (ap told_gathered c.in_ok-changes.was) ∙ c.gather.ensures.told) in
    let bytes = ap (take (length maps * 7)) c.gather.ensures.bytes ∙ body_in_front b words maps c.args.body.now fits.0 in
    let late = no_stray (length maps) _ (sym c.first_stray.ensures ∙ c.in_default.is) in
    let far = as_far b words maps late c.gather.new.body c.gather.new.changed _ _ (c.gather.ensures.bytes, c.gather.ensures.maps) in record {
      answer = c.padded.ensures ∙ ap₂ padding_answer bytes fits.1 ∙ fit_answer b words maps fits.0 ∙ sym (all_passed b words maps true reading.suits refl late);
      bytes = far.0;
      maps = far.1;
    }
