-- `head_order::card::inverse` meets its contract, by what the card's check and the inverting ensure.
-- Assumes nothing.
use mathlib.Core.List.{[]}
use mathlib.Core.Path.{◌≡◌, sym, ap, ◌∙◌}
use Rattle.std.specs.Prelude.{Result}
use Rattle.std.proofs.lemmas.Result.{err_from_is_err_and}
use Rattle.answer.specs.Answer.{Answer, delivered, told_refusal, figures_after}
use Rattle.answer.specs.declared.Refusal.{Refusal}
use Rattle.track_order.specs.Order.{inverse}
use Rattle.track_order.specs.Moved.{inverse_answer}
use Rattle.track_order.proofs.Moved.{card_refused, card_passed, good_inverse}
use Rattle.terms.proofs.Terms.{terms_hold, nothing_stored}
use Rattle.terms.specs.Call.{invert_card, answer_to, result_of}
use Rattle.head_order.specs.Told.{told_stored}
use Rattle.head_order.proofs.Told.{same_figures}
use Rattle.head_order.proofs.card.inverse.Goals as goal

pub returns-in_err-checked : goal.returns-in_err-checked
unfolding answer_to result_of inverse_answer
returns-in_err-checked c =
    let args = c.args in
    let refusal = err_from_is_err_and c.from_residual.result c.from_residual.ensures.1 in
    let refused = ap told_refusal refusal.2
    ∙ sym (card_refused args.card.now (delivered (inverse args.card.now)) _ _ _ (sym c.in_err-checked.ensures)) in
    let answers = ap (λ (r : Result Unit Refusal). told_stored r args.numbers.now) refusal.1 ∙ refused in
    record {
      answer = answers;
      output = ap (λ (x : Answer). figures_after x args.numbers.now) refused;
      terms = terms_hold _ [] [] (invert_card args.card.now) answers (nothing_stored _);
    }

pub returns : goal.returns
unfolding answer_to result_of
returns c =
    let args = c.args in
    let passed = card_passed args.card.now (delivered args.card.now) _ (sym c.in_ok-checked.ensures) in
    let is : c.places.result ≡ inverse args.card.now = c.places.ensures ∙ c.inverse.ensures ∙ ap inverse (sym (same_figures _ _ passed.1)) in
    let answers = ap delivered is ∙ sym (good_inverse args.card.now passed.0) in
    record {
      answer = answers;
      output = ap (λ (x : Answer). figures_after x args.numbers.now) answers;
      terms = terms_hold _ [] [] (invert_card args.card.now) answers (nothing_stored _);
    }
