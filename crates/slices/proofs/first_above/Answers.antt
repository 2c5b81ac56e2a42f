-- `slices::first_above` meets its contract: std finds the first value that passes the test.
-- Assumes nothing.
use Rattle.std.proofs.Common.{rules, tests, sym, ap, ◌∙◌, ℕ, Bool, ltb, length}
use Rattle.std.proofs.lemmas.Iterator.{YieldsList-from_slice}
use Rattle.std.proofs.lemmas.Iterator.Search.{position_from_yields_List}
use Rattle.indexed.specs.List.{index_in}
use Rattle.indexed.proofs.First.{first_where-position}
use Rattle.slices.specs.Above.{first_above}
use Rattle.slices.proofs.first_above.Goals as goal

pub returns : goal.returns
unfolding first_above
returns c =
    let above : ℕ → Bool = λ v. ltb c.args.limit v in
    let values = c.args.values.now in
    position_from_yields_List above _ _ c.position.result c.position.ensures.ran (YieldsList-from_slice values cc) (λ x b q k. search (rules, tests))
    ∙ ap (index_in (length values)) (sym (first_where-position above values))
