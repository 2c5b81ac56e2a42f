-- `register::multiplied` meets its contract. The loop's invariant: the sum so far, and the product with the columns that are left,
-- are the whole product.
-- Assumes nothing.
use mathlib.Core.Path.{◌≡◌, refl, sym, ap, ◌∙◌}
use Prim.Native.Nat.{ℕ, ◌+◌, ◌/◌}
use borrow.Author.Rules.{rules}
use lib.Bits.{xor_zero_r}
use lib.ListN.{get_or, drop}
use Rattle.register.specs.Matrix.{product}
use Rattle.register.specs.Xor.{◌⊕◌}
use Rattle.register.proofs.Matrix.{next_column, no_column, picked, passed_over}
use Rattle.register.proofs.multiplied.Goals.{then-left-eq1, else-left-eq1}
use Rattle.register.proofs.multiplied.Goals as goal

pub loop-column-init : goal.loop-column-init
loop-column-init c = refl

pub loop-column-preserved : goal.loop-column-preserved
loop-column-preserved c =
    let at = c.loop-column in
    let columns = c.args.columns in
    let column = get_or columns at.column-index 0 in
    let rest = product (drop (at.column-index + 1) columns) (at.left / 2) in
    let whole : c.if-left-eq1.sum ⊕ rest ≡ product columns c.args.byte =
    elim c.if-left-eq1.branch [
      | then-left-eq1 w ↦ ap (λ (s : ℕ). s ⊕ rest) w.sum-is ∙ next_column columns at.column-index at.sum at.left _ (search rules) (picked at.left column w.if-left-eq1.true)
      | else-left-eq1 w ↦ ap (λ (s : ℕ). s ⊕ rest) (w.sum-is ∙ sym (xor_zero_r at.sum))
          ∙ next_column columns at.column-index at.sum at.left _ (search rules) (passed_over at.left column w.if-left-eq1.false)
    ]
    ∙ at.invariant in
    whole

pub returns : goal.returns
returns c =
    let at = c.loop-column in
    let args = c.args in
    sym (no_column args.columns at.column-index at.sum at.left (search rules)) ∙ at.invariant
