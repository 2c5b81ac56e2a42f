-- `rindthok::order::rindthok_map_to_algebraic` meets its contract, by what `standard::map` and `store_map` ensure.
-- Assumes nothing.
use mathlib.Core.List.{[]}
use mathlib.Core.Path.{◌∙◌}
use Rattle.terms.specs.Call.{standard_map, answer_to, result_of}
use Rattle.terms.proofs.Terms.{nothing_stored}
use Rattle.terms.proofs.Moved.{standard_map_lem}
use Rattle.track_order.specs.declared.Toward.TheVariants.{Algebraic}
use Rattle.rindthok.proofs.Called.{called, stored_told}
use Rattle.rindthok.proofs.order.rindthok_map_to_algebraic.Goals as goal

pub returns : goal.returns
unfolding answer_to result_of
returns c =
    let args = c.args in
    let done = c.map in
    called (standard_map Algebraic args.map) _ [] [] _ _ _ _ (done.ensures.answer ∙ standard_map_lem Algebraic _ 0) (nothing_stored _)
    (stored_told _ _ _ _ _ _ c.store_map.ensures c.status.ensures.number c.status.ensures.place)
