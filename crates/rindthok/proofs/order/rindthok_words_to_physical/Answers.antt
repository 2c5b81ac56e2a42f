-- `rindthok::order::rindthok_words_to_physical` meets its contract, by what `standard::words` and `status` ensure.
-- Assumes nothing.
use mathlib.Core.Path.{◌∙◌}
use Rattle.terms.specs.Call.{standard_words, answer_to, result_of}
use Rattle.terms.proofs.Moved.{standard_words_lem}
use Rattle.track_order.specs.declared.Toward.TheVariants.{Physical}
use Rattle.rindthok.proofs.Called.{called, stored_told, no_figures}
use Rattle.rindthok.proofs.order.rindthok_words_to_physical.Goals as goal

pub returns : goal.returns
unfolding answer_to result_of
returns c =
    let args = c.args in
    let done = c.words in
    called (standard_words Physical args.source.now) _ _ _ _ _ _ _ (done.ensures.answer ∙ standard_words_lem Physical _ _) done.ensures.output
    (stored_told _ _ _ _ _ _ (no_figures done.result) c.status.ensures.number c.status.ensures.place)
