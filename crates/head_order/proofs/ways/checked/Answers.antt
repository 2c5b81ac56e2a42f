-- `head_order::ways::checked` meets its contract: the tests that led to a return say which row holds.
-- Assumes nothing.
use mathlib.Core.Path.{sym, ap, ◌∙◌}
use Rattle.answer.specs.Answer.{told_refusal}
use Rattle.track_order.specs.Moved.{words_answer}
use Rattle.track_order.proofs.Rows.{words_length, words_space, words_found, words_clean}
use Rattle.head_order.proofs.ways.checked.Goals as goal

pub returns-in_default-clause-answer : goal.returns-in_default-clause-answer
unfolding words_answer
returns-in_default-clause-answer c = ap told_refusal c.into.ensures ∙ sym (words_length _ _ _ c.in_default.ensures.cases)

pub returns-then-space-lt-TRACKS-clause-answer : goal.returns-then-space-lt-TRACKS-clause-answer
unfolding words_answer
returns-then-space-lt-TRACKS-clause-answer c =
    ap told_refusal c.into-then-space-lt-TRACKS.ensures ∙ sym (words_space _ _ _ c.in-Some.ensures.cases.long c.if-space-lt-TRACKS.true)

pub returns-in-Some-first_above-clause-answer : goal.returns-in-Some-first_above-clause-answer
returns-in-Some-first_above-clause-answer c =
    sym (words_found _ _ c.in-Some.ensures.cases.long c.if-space-lt-TRACKS.false _ (sym c.in-Some-first_above.is ∙ c.first_above.ensures))

pub returns-in-None-clause-answer : goal.returns-in-None-clause-answer
returns-in-None-clause-answer c =
    sym (words_clean _ _ c.in-Some.ensures.cases.long c.if-space-lt-TRACKS.false (sym c.in-None.is ∙ c.first_above.ensures))
