-- `scan6250::judge::padded` meets its contract.
-- Assumes nothing.
use mathlib.Core.List.{◌∷◌}
use mathlib.Core.Path.{sym, ap, ◌∙◌}
use native.Mathlib.Omega.{arith}
use Rattle.answer.specs.Answer.{told_refusal}
use Rattle.track_counts.specs.Counts.{counts_told}
use Rattle.scan6250.proofs.Padded.{suits_answer, padding_answer_lem, last_six}
use Rattle.scan6250.proofs.judge.padded.Goals as goal

pub overflow_sub-length-3 : goal.overflow_sub-length-3
overflow_sub-length-3 c =
    omega (arith, c.requires, last_six c.args.bytes.now c.requires (sym c.padding_suits.ensures ∙ c.if-not-padding_suits.false))

pub returns-then-not-padding_suits : goal.returns-then-not-padding_suits
returns-then-not-padding_suits c =
    ap told_refusal c.into.ensures
    ∙ padding_answer_lem c.args.bytes.now c.requires (c.args.changes ∷ counts_told c.args.counts) (sym c.padding_suits.ensures ∙ c.if-not-padding_suits.true)

pub returns : goal.returns
returns c =
    suits_answer c.args.bytes.now c.requires (c.args.changes ∷ counts_told c.args.counts)
    (sym c.padding_suits.ensures ∙ c.if-not-padding_suits.false)
