-- `head_order::card::words` meets its contract, by what the checks and `ways::words` ensure.
-- Assumes nothing.
use mathlib.Core.List.{[]}
use mathlib.Core.Path.{◌≡◌, sym, ap, ◌∙◌}
use lib.ListN.{length}
use Rattle.std.specs.Prelude.{Result}
use Rattle.std.proofs.lemmas.Result.{err_from_is_err_and}
use Rattle.answer.specs.Answer.{delivered, told_refusal}
use Rattle.answer.specs.declared.Refusal.{Refusal}
use Rattle.track_order.specs.Order.{way, moved_words}
use Rattle.track_order.proofs.Moved.{words_refused, all_passed, good_words}
use Rattle.terms.proofs.Terms.{with_terms}
use Rattle.terms.specs.Call.{move_words, answer_to, result_of}
use Rattle.head_order.specs.Told.{told_stored}
use Rattle.head_order.proofs.Told.{same_figures, refused_output}
use Rattle.head_order.proofs.card.words.Goals as goal

pub returns-in_err-good : goal.returns-in_err-good
unfolding answer_to result_of
returns-in_err-good c =
    let args = c.args in
    let refusal = err_from_is_err_and c.from_residual.result c.from_residual.ensures.1 in
    let all = with_terms _ _ _ (move_words args.toward args.card.now args.source.now)
    (ap (λ (r : Result Unit Refusal). told_stored r []) refusal.1 ∙ ap told_refusal refusal.2
    ∙ sym (words_refused args.source.now (length args.target.now) args.card.now _ _ _ (sym c.in_err-good.ensures)))
    (refused_output (moved_words args.toward args.card.now args.source.now) args.target.now c.from_residual.result _ refusal.1) in
    record {
      answer = all.0;
      output = all.1.0;
      terms = all.1.1;
    }

pub returns : goal.returns
unfolding answer_to result_of
returns c =
    let args = c.args in
    let passed = all_passed args.card.now (length args.source.now) (length args.target.now) (delivered args.card.now) _ (sym c.in_ok-good.ensures) in
    let is : c.way.result ≡ way args.toward args.card.now = c.way.ensures ∙ ap (way args.toward) (sym (same_figures _ _ passed.3)) in
    let done = rw is at c.words.ensures in
    let all = with_terms _ _ _ (move_words args.toward args.card.now args.source.now)
    (done.answer ∙ sym (good_words args.source.now (length args.target.now) args.card.now passed.0)) done.output in
    record {
      answer = all.0;
      output = all.1.0;
      terms = all.1.1;
    }
