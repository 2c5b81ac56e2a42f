-- `products::sums::check_syndrome` meets its contract: the sum is reduced.
-- Assumes nothing.
use mathlib.Core.Path.{◌∙◌}
use Rattle.products.proofs.Check.{sum_reduced}
use Rattle.products.proofs.sums.check_syndrome.Goals as goal

pub returns : goal.returns
returns c =
    let sum = c.sum in
    c.reduced_sum.ensures ∙ sum_reduced c.args.tracks sum.result sum.ensures
