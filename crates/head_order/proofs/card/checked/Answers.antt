-- `head_order::card::checked` meets its contract, by the card's length and then its numbers.
-- Assumes nothing.
use mathlib.Core.Path.{sym, ap, ◌∙◌}
use Rattle.std.proofs.lemmas.Result.{err_from_is_err_and}
use Rattle.answer.specs.Answer.{delivered, told, told_refusal}
use Rattle.track_order.specs.Moved.{if_none_wrong}
use Rattle.track_order.proofs.Moved.{numbers_refused}
use Rattle.head_order.proofs.Told.{numbers_then}
use Rattle.head_order.proofs.card.checked.Goals as goal

pub returns-in_err-nine_numbers : goal.returns-in_err-nine_numbers
returns-in_err-nine_numbers c =
    let refusal = err_from_is_err_and _ c.from_residual.ensures.1 in
    ap (told (λ good. good)) refusal.1 ∙ ap told_refusal refusal.2 ∙ sym (numbers_refused _ _ _ _ _ (sym c.in_err-nine_numbers.ensures))

pub returns : goal.returns
returns c =
    c.none_wrong.ensures
    ∙ numbers_then c.args.card.now _ (λ numbers. if_none_wrong numbers (delivered numbers)) c.in_ok-nine_numbers.ensures
