-- `head_order::card::checked_sizes` meets its contract: the tests that led to a return say which row holds.
-- Assumes nothing.
use mathlib.Core.Path.{sym, ap, ◌∙◌}
use Rattle.std.proofs.lemmas.Result.{err_from_is_err_and}
use Rattle.answer.specs.Answer.{delivered, told, told_refusal}
use Rattle.track_order.specs.Moved.{if_nine_words, if_none_wrong}
use Rattle.track_order.proofs.Moved.{numbers_refused}
use Rattle.track_order.proofs.Rows.{words_length, words_space, words_fit}
use Rattle.head_order.proofs.Told.{numbers_then}
use Rattle.head_order.proofs.card.checked_sizes.Goals as goal

pub returns-in_err-card : goal.returns-in_err-card
returns-in_err-card c =
    let refusal = err_from_is_err_and _ c.from_residual.ensures.1 in
    ap (told (λ good. good)) refusal.1 ∙ ap told_refusal refusal.2 ∙ sym (numbers_refused _ _ _ _ _ (sym c.in_err-card.ensures))

pub returns-then-count-ne-TRACKS : goal.returns-then-count-ne-TRACKS
returns-then-count-ne-TRACKS c =
    ap told_refusal c.into.ensures
    ∙ sym (words_length c.args.count c.args.space _ c.if-count-ne-TRACKS.true)
    ∙ numbers_then c.args.card.now _ (λ numbers. if_nine_words c.args.count c.args.space (if_none_wrong numbers (delivered numbers))) c.in_ok-card.ensures

pub returns-then-space-lt-TRACKS : goal.returns-then-space-lt-TRACKS
returns-then-space-lt-TRACKS c =
    ap told_refusal c.into-then-space-lt-TRACKS.ensures
    ∙ sym (words_space c.args.count c.args.space _ c.if-count-ne-TRACKS.false c.if-space-lt-TRACKS.true)
    ∙ numbers_then c.args.card.now _ (λ numbers. if_nine_words c.args.count c.args.space (if_none_wrong numbers (delivered numbers))) c.in_ok-card.ensures

pub returns : goal.returns
returns c =
    c.none_wrong.ensures
    ∙ sym (words_fit c.args.count c.args.space _ c.if-count-ne-TRACKS.false c.if-space-lt-TRACKS.false)
    ∙ numbers_then c.args.card.now _ (λ numbers. if_nine_words c.args.count c.args.space (if_none_wrong numbers (delivered numbers))) c.in_ok-card.ensures
