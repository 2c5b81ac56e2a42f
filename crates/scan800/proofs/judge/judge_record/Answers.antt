-- `scan800::judge::judge_record` meets its contract: each check is the definition's.
-- Assumes nothing.
use mathlib.Core.Path.{sym, ap, ◌∙◌}
use Rattle.answer.specs.Answer.{refused_for, told_refusal}
use Rattle.answer.specs.declared.Reason.TheVariants.{StrayBits}
use Rattle.record800.proofs.Answer.{length_refused, space_refused, stray_refused, passed_judged, passed}
use Rattle.indexed.proofs.Found.{found_index, found_none}
use Rattle.scan800.proofs.judge.judge_record.Goals as goal

pub returns-then-not-length_suits-clause-answer : goal.returns-then-not-length_suits-clause-answer
returns-then-not-length_suits-clause-answer c =
    let unsuited = sym c.length_suits.ensures ∙ c.if-not-length_suits.true in
    ap told_refusal c.into.ensures ∙ sym (length_refused _ _ _ unsuited)

pub returns-then-not-enough-clause-answer : goal.returns-then-not-enough-clause-answer
returns-then-not-enough-clause-answer c =
    let suits = sym c.length_suits.ensures ∙ c.if-not-length_suits.false in
    ap told_refusal c.into-then-not-enough.ensures ∙ sym (space_refused _ _ _ suits c.if-not-enough.true)

pub returns-in-Some-clause-answer : goal.returns-in-Some-clause-answer
returns-in-Some-clause-answer c =
    let suits = sym c.length_suits.ensures ∙ c.if-not-length_suits.false in
    let found = found_index _ _ _ (sym c.in-Some.is ∙ c.first_stray.ensures) in
    ap (refused_for StrayBits) found.0 ∙ sym (stray_refused _ _ _ suits c.if-not-enough.false found.1)

pub invariant_of-passed : goal.invariant_of-passed
invariant_of-passed c =
    let suits = sym c.length_suits.ensures ∙ c.if-not-length_suits.false in
    let passes = passed _ _ suits (found_none _ _ (sym c.in_default.is ∙ c.first_stray.ensures)) in
    record { lengths = passes.lengths; no_stray = passes.no_stray }

pub returns-clause-answer : goal.returns-clause-answer
returns-clause-answer c =
    let suits = sym c.length_suits.ensures ∙ c.if-not-length_suits.false in
    let passes = passed _ _ suits (found_none _ _ (sym c.in_default.is ∙ c.first_stray.ensures)) in
    c.judge_sums.ensures.answer ∙ sym (passed_judged _ _ _ passes c.if-not-enough.false)
