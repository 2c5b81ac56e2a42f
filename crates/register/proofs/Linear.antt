-- Functions that are linear over ⊕: their values at the places give all others, so two that agree there agree.
-- Assumes nothing.
use mathlib.Core.Path.{◌≡◌, sym, ap, ap₂, ◌∙◌}
use Prim.Native.Nat.{ℕ, zero, suc, ◌*◌, ◌^◌, ◌<◌}
use native.Mathlib.Nat.{le_refl, mod-eq_of_lt, zero-mul, one-mul, add-zero}
use native.Mathlib.Omega.{arith}
use lib.Pow.{pow_pos}
use lib.Bits.{xor_self, xor_block}
use Rattle.register.specs.Xor.{◌⊕◌}
use Rattle.register.specs.Bit.{bit}
use Rattle.register.specs.Sum.{xor_sum}
use Rattle.register.proofs.Xor.{digit_ind}
use Rattle.register.proofs.Bit.{bit_lt}
use Rattle.register.proofs.Sum.{sum_ext, sum_lt}
use Rattle.register.proofs.Expand.{places, digit_place_lt}

-- F of a sum of numbers of n bits is the sum of its values
abbrev pub Linear : ℕ → (ℕ → ℕ) → Type 0
Linear n F = (a b : ℕ) → a < 2 ^ n → b < 2 ^ n → F (a ⊕ b) ≡ F a ⊕ F b

-- a number shifted up
pub shl_xor : (k a b : ℕ) → (a ⊕ b) * 2 ^ k ≡ a * 2 ^ k ⊕ b * 2 ^ k
shl_xor k a b =
    sym (add-zero ((a ⊕ b) * 2 ^ k))
    ∙ sym (xor_block k a b 0 0 (pow_pos k) (pow_pos k))
    ∙ ap₂ ◌⊕◌ (add-zero (a * 2 ^ k)) (add-zero (b * 2 ^ k))

module _ (n : ℕ) (F : ℕ → ℕ) (linear : Linear n F) where
  -- F 0 added to itself is F 0
  pub linear_zero : F 0 ≡ 0
  linear_zero = linear 0 0 (pow_pos n) (pow_pos n) ∙ xor_self (F 0)

  linear_digit : (d a : ℕ) → d < 2 → F (d * a) ≡ d * F a
  linear_digit d a h =
      digit_ind (λ (d : ℕ). F (d * a) ≡ d * F a)
      (ap F (zero-mul a) ∙ linear_zero ∙ sym (zero-mul (F a))) (ap F (one-mul a) ∙ sym (one-mul (F a))) d h

  pub linear_sum : (m : ℕ) (g : ℕ → ℕ) → ((k : ℕ) → k < m → g k < 2 ^ n) → F (xor_sum m g) ≡ xor_sum m (λ k. F (g k))
  unfolding xor_sum
  linear_sum zero g h = linear_zero
  linear_sum (suc m) g h =
      linear (xor_sum m g) (g m) (sum_lt n m g (λ k b. h k (omega arith))) (h m (le_refl (suc m)))
      ∙ ap (λ (x : ℕ). x ⊕ F (g m)) (linear_sum m g (λ k b. h k (omega arith)))

  -- the sum of F's values at the places of a number's ones
  pub linear_expanded : (a : ℕ) → a < 2 ^ n → F a ≡ xor_sum n (λ k. bit k a * F (2 ^ k))
  linear_expanded a h =
      ap F (sym (mod-eq_of_lt h) ∙ places n a)
      ∙ linear_sum n (λ k. bit k a * 2 ^ k) (λ k b. digit_place_lt n k (bit k a) b (bit_lt k a))
      ∙ sum_ext n _ _ (λ k b. linear_digit (bit k a) (2 ^ k) (bit_lt k a))

pub linear_agree : (n : ℕ) (F G : ℕ → ℕ) → Linear n F → Linear n G → ((k : ℕ) → k < n → F (2 ^ k) ≡ G (2 ^ k))
    → (a : ℕ) → a < 2 ^ n → F a ≡ G a
linear_agree n F G f g same a h =
    linear_expanded n F f a h
    ∙ sum_ext n _ _ (λ k b. ap (λ (x : ℕ). bit k a * x) (same k b))
    ∙ sym (linear_expanded n G g a h)
