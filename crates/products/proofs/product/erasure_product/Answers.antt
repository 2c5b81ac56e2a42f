-- `products::product::erasure_product` meets its contract: the inverse of I + T^d is linear.
-- Assumes nothing.
use mathlib.Core.Path.{◌∙◌}
use native.Mathlib.Omega.{arith}
use borrow.Author.Rules.{rules}
use Rattle.rectangular.specs.Constants.{feedback, exponent}
use Rattle.rectangular.specs.Syndrome.{erasure}
use Rattle.products.proofs.Matrix.{product_linear, erasure_linear}
use Rattle.products.proofs.product.erasure_product.Goals as goal

pub returns : goal.returns
returns c =
    let args = c.args in
    let columns = c.erasure_columns in
    c.applied.ensures
    ∙ product_linear (erasure 8 feedback exponent args.d) (erasure_linear 8 feedback exponent args.d (omega arith))
    columns.result columns.ensures args.x (search rules)
