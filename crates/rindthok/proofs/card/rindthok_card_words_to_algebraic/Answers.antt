-- `rindthok::card::rindthok_card_words_to_algebraic` meets its contract, by what `card::words` and `status` ensure.
-- Assumes nothing.
use Rattle.terms.specs.Call.{move_words, answer_to, result_of}
use Rattle.track_order.specs.declared.Toward.TheVariants.{Algebraic}
use Rattle.rindthok.proofs.Called.{called, stored_told, no_figures}
use Rattle.rindthok.proofs.card.rindthok_card_words_to_algebraic.Goals as goal

pub returns : goal.returns
unfolding answer_to result_of
returns c =
    let args = c.args in
    let done = c.words in
    called (move_words Algebraic args.card.now args.source.now) _ _ _ _ _ _ _ done.ensures.answer done.ensures.output
    (stored_told _ _ _ _ _ _ (no_figures done.result) c.status.ensures.number c.status.ensures.place)
