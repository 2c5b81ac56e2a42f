-- `products::product::applied` meets its contract: masks pick the columns, and folding adds them.
-- Assumes nothing.
use mathlib.Core.Path.{◌∙◌}
use borrow.Author.Rules.{rules}
use Rattle.products.proofs.Matrix.{alone, highest, alone_fits, masks_fit, masks_pick}
use Rattle.products.proofs.product.applied.Goals as goal

pub overflow_add-highest : goal.overflow_add-highest
unfolding alone
overflow_add-highest c = record { fits = alone_fits c.args.x (search rules) }

pub overflow_mul-masks : goal.overflow_mul-masks
unfolding highest alone
overflow_mul-masks c = record { fits = masks_fit c.args.x (search rules) }

pub returns : goal.returns
unfolding highest alone
returns c = c.parity.ensures ∙ masks_pick c.args.columns c.args.x (search rules)
