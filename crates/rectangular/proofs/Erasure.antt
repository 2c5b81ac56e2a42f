-- Over the width: the sum of the odd powers of T^d is the inverse of I + T^d, since the exponent is odd and T^d keeps no character
-- but 0 (document 000, equation (21)).
-- Assumes nothing.
use mathlib.Core.Path.{◌≡◌, sym, ap, ap₂, ◌∙◌}
use Prim.Native.Nat.{ℕ, suc, ◌+◌, ◌*◌, ◌/◌, ◌^◌, ◌<◌}
use native.Mathlib.Nat.{mul-zero}
use native.Mathlib.Omega.{arith}
use lib.Bits.{xor_self}
use Rattle.register.specs.Exponent.{Exponent}
use Rattle.register.specs.Shift.{shifts}
use Rattle.register.specs.Sum.{xor_sum}
use Rattle.register.specs.Xor.{◌⊕◌}
use Rattle.register.proofs.Exponent.{multiples}
use Rattle.register.proofs.Shift.{shifts_lt, shifts_add}
use Rattle.register.proofs.Sum.{sum_ext, sum_lt, sum_xor, shifts_sum, sum_first, sum_telescope, sum_pairs}
use Rattle.register.proofs.Xor.{xor_zero→eq}
use Rattle.rectangular.specs.Syndrome.{erasure}
use Rattle.rectangular.specs.Group.{Suits}

module _ (w f n : ℕ) (s : Suits w f) (x : Exponent w f n) (odd : n ≡ 2 * (n / 2) + 1) (d : ℕ) (positive : 0 < d) (below : d < w)
    (a : ℕ) (fits : a < 2 ^ w) where
  -- the powers of T^d times a, and the next of them
  power : ℕ → ℕ
  power k = shifts w f (d * k) a

  power_lt : (k : ℕ) → power k < 2 ^ w
  unfolding power
  power_lt k = shifts_lt w f (d * k) a s.fits fits

  next : (k : ℕ) → shifts w f d (power k) ≡ power (suc k)
  unfolding power
  next k =
      let e : d + d * k ≡ d * suc k = omega arith in
      sym (shifts_add w f d (d * k) a) ∙ ap (λ (j : ℕ). shifts w f j a) e

  power_first : power 0 ≡ a
  unfolding power shifts
  power_first = ap (λ (j : ℕ). shifts w f j a) (mul-zero d)

  -- a shift of a sum of powers
  shifted : (m : ℕ) (g : ℕ → ℕ) → shifts w f d (xor_sum m (λ k. power (g k))) ≡ xor_sum m (λ k. power (suc (g k)))
  shifted m g =
      shifts_sum w f d m (λ k. power (g k)) s.fits (λ k h. power_lt (g k)) ∙ sum_ext m _ _ (λ k h. next (g k))

  -- T^d keeps the sum of all n powers, so it is 0
  all_zero : xor_sum n power ≡ 0
  unfolding power
  all_zero =
      s.keeps_none d positive below (xor_sum n power) (sum_lt w n power (λ k h. power_lt k))
      (sym (xor_zero→eq (xor_sum n power) _
      (ap (λ (y : ℕ). xor_sum n power ⊕ y) (shifted n (λ k. k))
      ∙ sum_telescope n power
      ∙ ap₂ ◌⊕◌ power_first (multiples w f n x s.fits d a fits)
      ∙ xor_self a)))

  -- so all powers but the first sum to a
  others : xor_sum (2 * (n / 2)) (λ k. power (suc k)) ≡ a
  others =
      let whole : n ≡ suc (2 * (n / 2)) = omega arith in
      sym (xor_zero→eq (power 0) _
      (sym (ap (λ (m : ℕ). xor_sum m power) whole ∙ sum_first (2 * (n / 2)) power) ∙ all_zero))
      ∙ power_first

  pub erasure_lt : erasure w f n d a < 2 ^ w
  unfolding erasure power
  erasure_lt = sum_lt w (n / 2) _ (λ k h. power_lt (2 * k + 1))

  pub erasure_inverts : erasure w f n d a ⊕ shifts w f d (erasure w f n d a) ≡ a
  unfolding erasure power
  erasure_inverts =
      ap (λ (y : ℕ). erasure w f n d a ⊕ y) (shifted (n / 2) (λ k. 2 * k + 1))
      ∙ sym (sum_xor (n / 2) (λ k. power (2 * k + 1)) (λ k. power (suc (2 * k + 1))))
      ∙ sum_ext (n / 2) _ (λ k. power (suc (2 * k)) ⊕ power (suc (suc (2 * k))))
      (λ k h. ap (λ (j : ℕ). power j ⊕ power (suc j)) (pair k))
      ∙ sum_pairs (n / 2) (λ k. power (suc k))
      ∙ others
    where
      pair : (k : ℕ) → 2 * k + 1 ≡ suc (2 * k)
      pair k = omega arith
