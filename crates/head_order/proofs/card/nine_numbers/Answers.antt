-- `head_order::card::nine_numbers` meets its contract, by the card's length.
-- Assumes nothing.
use mathlib.Core.Path.{sym, ap, ◌∙◌}
use Rattle.answer.specs.Answer.{delivered, told_refusal}
use Rattle.track_order.proofs.Rows.{card_length, card_nine}
use Rattle.head_order.proofs.card.nine_numbers.Goals as goal

pub returns-in-Some : goal.returns-in-Some
returns-in-Some c =
    let whole = c.in-Some.ensures.cases in
    ap delivered whole.same ∙ sym (card_nine _ _ whole.long)

pub returns-in-None : goal.returns-in-None
returns-in-None c = ap told_refusal c.into.ensures ∙ sym (card_length _ _ c.in-None.ensures.cases)
