-- `products::product::backward_power` meets its contract: every power of every byte is computed.
-- Assumes nothing.
use mathlib.Core.Path.{◌≡◌, ap, ◌∙◌}
use Prim.Native.Nat.{ℕ, ◌-◌, ◌*◌, ◌/◌, ◌%◌, ◌^◌, ◌<◌}
use borrow.Author.Rules.{rules}
use Rattle.indexed.proofs.Test.{equal₂}
use Rattle.register.specs.Matrix.{product}
use Rattle.register.specs.Shift.{shift, shifts}
use Rattle.register.specs.Xor.{◌⊕◌}
use Rattle.remainder.specs.Power.{seventh_inverse}
use Rattle.rectangular.specs.Constants.{feedback, exponent}
use Rattle.products.proofs.product.backward_power.Goals as goal

-- the bits that fall out, as the highest of seven
abbrev low : ℕ → ℕ → ℕ
low i x = x * 2 ^ (7 - i) % 2 ^ 64 % 128

power : (i x : ℕ) → i < 8 → x < 256 → (x / 2 ^ i ⊕ product seventh_inverse (low i x)) % 256 ≡ shifts 8 feedback (exponent - i) x
unfolding shift shifts
power =
    equal₂ 8 256 (λ i x. (x / 2 ^ i ⊕ product seventh_inverse (low i x)) % 256) (λ i x. shifts 8 feedback (exponent - i) x) tt

pub returns : goal.returns
returns c =
    let args = c.args in
    ap (λ (r : ℕ). (args.x / 2 ^ args.i ⊕ r) % 256) c.restored.ensures
    ∙ power args.i args.x (search rules) (search rules)
