-- `register::multiplied` meets its contract. The loop's invariant: the sum so far, and the product with the columns that are left,
-- are the whole product.
-- Assumes nothing.
use Rattle.std.proofs.Common.{◌≡◌, drop}
use Rattle.register.specs.Matrix.{product}
use Rattle.register.specs.Xor.{◌⊕◌}
use Rattle.register.proofs.multiplied.Given as goal

abbrev pub invariant-loop-column : goal.invariant-loop-column
invariant-loop-column l = l.sum ⊕ product (drop l.column-index l.column-items) l.left ≡ product l.column-items l.byte
