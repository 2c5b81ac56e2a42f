-- `head_order::standard::words` meets its contract: the card is the standard one, which is good.
-- Assumes nothing.
use mathlib.Core.Path.{◌∙◌}
use Rattle.terms.proofs.Moved.{standard_words_lem}
use Rattle.terms.proofs.Terms.{terms_hold}
use Rattle.terms.specs.Call.{standard_words, answer_to, result_of}
use Rattle.head_order.proofs.standard.words.Goals as goal

pub returns-clause-terms : goal.returns-clause-terms
unfolding answer_to result_of
returns-clause-terms c =
    let args = c.args in
    let done = rw (c.way.ensures, c.standard.ensures) at c.words.ensures in
    terms_hold _ _ _ (standard_words args.toward args.source.now) (done.answer ∙ standard_words_lem args.toward args.source.now _) done.output
