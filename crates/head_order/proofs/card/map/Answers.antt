-- `head_order::card::map` meets its contract, by what the card's check and `ways::map` ensure.
-- Assumes nothing.
use mathlib.Core.List.{List, []}
use mathlib.Core.Path.{sym, ap, ◌∙◌}
use Prim.Native.Nat.{ℕ}
use Rattle.std.proofs.lemmas.Result.{err_from_is_err_and}
use Rattle.answer.specs.Answer.{delivered, told_refusal}
use Rattle.track_order.specs.Order.{way, moved_map, arranged_map}
use Rattle.track_order.specs.Moved.{map_answer, card_map_answer}
use Rattle.track_order.proofs.Moved.{card_refused, card_passed, good_map}
use Rattle.terms.proofs.Terms.{terms_hold, nothing_stored}
use Rattle.terms.specs.Call.{move_map, answer_to, result_of}
use Rattle.head_order.specs.Told.{told_map}
use Rattle.head_order.proofs.Told.{same_figures}
use Rattle.head_order.proofs.card.map.Goals as goal

pub returns-in_err-good : goal.returns-in_err-good
unfolding answer_to result_of card_map_answer
returns-in_err-good c =
    let args = c.args in
    let refusal = err_from_is_err_and c.from_residual.result c.from_residual.ensures.1 in
    let answers = ap told_map refusal.1 ∙ ap told_refusal refusal.2
    ∙ sym (card_refused args.card.now (map_answer (moved_map args.toward args.card.now) args.map) _ _ _ (sym c.in_err-good.ensures)) in
    record {
      answer = answers;
      terms = terms_hold _ [] [] (move_map args.toward args.card.now args.map) answers (nothing_stored _);
    }

pub returns : goal.returns
unfolding answer_to result_of
returns c =
    let args = c.args in
    let passed = card_passed args.card.now (delivered args.card.now) _ (sym c.in_ok-good.ensures) in
    let answers =
    rw c.way.ensures at c.map.ensures
    ∙ ap (λ (card : List ℕ). map_answer (arranged_map (way args.toward card)) args.map) (sym (same_figures _ _ passed.1))
    ∙ sym (good_map args.card.now (moved_map args.toward args.card.now) args.map passed.0) in
    record {
      answer = answers;
      terms = terms_hold _ [] [] (move_map args.toward args.card.now args.map) answers (nothing_stored _);
    }
