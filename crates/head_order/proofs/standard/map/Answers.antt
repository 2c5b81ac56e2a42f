-- `head_order::standard::map` meets its contract: the card is the standard one, which is good.
-- Assumes nothing.
use mathlib.Core.List.{[]}
use mathlib.Core.Path.{◌∙◌}
use Rattle.terms.proofs.Moved.{standard_map_lem}
use Rattle.terms.proofs.Terms.{terms_hold, nothing_stored}
use Rattle.terms.specs.Call.{standard_map, answer_to, result_of}
use Rattle.head_order.proofs.standard.map.Goals as goal

pub returns-clause-terms : goal.returns-clause-terms
unfolding answer_to result_of
returns-clause-terms c =
    let args = c.args in
    let done = rw (c.way.ensures, c.standard.ensures) at c.map.ensures in
    terms_hold _ [] [] (standard_map args.toward args.map) (done ∙ standard_map_lem args.toward args.map 0) (nothing_stored _)
