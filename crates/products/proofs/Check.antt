-- The check syndrome from the packed tracks: their sum is linear, so what it is at each of the 64 places is enough, and a sum that
-- is reduced once is the sum of the terms reduced.
-- Assumes nothing.
use mathlib.Core.Path.{◌≡◌, sym, ap, ap₂, ◌∙◌}
use Prim.Native.Nat.{ℕ, ◌*◌, ◌/◌, ◌%◌, ◌^◌, ◌<◌}
use native.Mathlib.Omega.{arith}
use lib.Bits.{bit_and, xor_shr, xor_mod}
use Rattle.indexed.proofs.Test.{equal, equal₂}
use Rattle.register.specs.Matrix.{product}
use Rattle.register.specs.Shift.{shift, shifts}
use Rattle.register.specs.Sum.{xor_sum}
use Rattle.register.specs.Xor.{◌⊕◌}
use Rattle.register.proofs.And.{and_xor}
use Rattle.register.proofs.Linear.{Linear, shl_xor, linear_agree}
use Rattle.register.proofs.Sum.{sum_ext, sum_xor, sum_mod, sum_shr, shifts_sum}
use Rattle.register.proofs.Xor.{xor_swap}
use Rattle.remainder.specs.Power.{eighth_power}
use Rattle.rectangular.specs.Constants.{feedback}
use Rattle.rectangular.specs.Syndrome.{check_syndrome}
use Rattle.group6250.specs.Packed.{byte_at}
use Rattle.group6250.proofs.Bytes.{byte_lt}

-- ---- the sum, by halves

-- what one mask keeps, and what another keeps, shifted down
unfoldable pub halved : ℕ → ℕ → ℕ → ℕ → ℕ
halved lower upper s x = bit_and x lower ⊕ bit_and x upper / 2 ^ s

unfoldable pub summed : ℕ → ℕ
summed x =
    halved 4294967295 18446744069414584320 28
    (halved 281470681808895 18446462603027742720 14
    (halved 71777214294589695 18374966859414961920 7 x))

halved_xor : (lower upper s a b : ℕ) → halved lower upper s (a ⊕ b) ≡ halved lower upper s a ⊕ halved lower upper s b
unfolding halved
halved_xor lower upper s a b =
    ap₂ ◌⊕◌ (and_xor a b lower) (ap (λ (x : ℕ). x / 2 ^ s) (and_xor a b upper) ∙ xor_shr (bit_and a upper) (bit_and b upper) s)
    ∙ xor_swap (bit_and a lower) (bit_and b lower) (bit_and a upper / 2 ^ s) (bit_and b upper / 2 ^ s)

summed_linear : Linear 64 summed
unfolding summed
summed_linear a b _ _ =
    ap (λ (x : ℕ). halved 4294967295 18446744069414584320 28 (halved 281470681808895 18446462603027742720 14 x))
    (halved_xor 71777214294589695 18374966859414961920 7 a b)
    ∙ ap (halved 4294967295 18446744069414584320 28) (halved_xor 281470681808895 18446462603027742720 14 _ _)
    ∙ halved_xor 4294967295 18446744069414584320 28 _ _

-- the sum of X^j times byte j
unfoldable pub product_sum : ℕ → ℕ
product_sum x = xor_sum 8 (λ j. byte_at j x * 2 ^ j)

byte_xor : (j a b : ℕ) → byte_at j (a ⊕ b) ≡ byte_at j a ⊕ byte_at j b
unfolding byte_at
byte_xor j a b = ap (λ (x : ℕ). x % 256) (xor_shr a b (8 * j)) ∙ xor_mod (a / 2 ^ (8 * j)) (b / 2 ^ (8 * j)) 8

product_sum_linear : Linear 64 product_sum
unfolding product_sum
product_sum_linear a b _ _ =
    sum_ext 8 _ _ (λ j _. ap (λ (x : ℕ). x * 2 ^ j) (byte_xor j a b) ∙ shl_xor j (byte_at j a) (byte_at j b))
    ∙ sum_xor 8 (λ j. byte_at j a * 2 ^ j) (λ j. byte_at j b * 2 ^ j)

-- a test of every place
at_places : (k : ℕ) → k < 64 → summed (2 ^ k) ≡ product_sum (2 ^ k)
unfolding summed halved product_sum xor_sum byte_at
at_places = equal 64 (λ k. summed (2 ^ k)) (λ k. product_sum (2 ^ k)) tt

pub summed_is : (x : ℕ) → x < 2 ^ 64 → summed x ≡ xor_sum 8 (λ j. byte_at j x * 2 ^ j)
unfolding product_sum
summed_is = linear_agree 64 summed product_sum summed_linear product_sum_linear at_places

-- ---- the sum reduced

-- what the table gives for the seven bits above: a test of every entry
eighth : (h : ℕ) → h < 128 → product eighth_power h % 256 ≡ shifts 8 feedback 8 h
unfolding shift shifts
eighth = equal 128 (λ h. product eighth_power h % 256) (shifts 8 feedback 8) tt

pub reduced_is : (s r : ℕ) → r ≡ product eighth_power (s / 256 % 128)
    → (s ⊕ r) % 256 ≡ (s % 256) ⊕ shifts 8 feedback 8 (s / 256 % 128)
reduced_is s r e =
    xor_mod s r 8
    ∙ ap (λ (u : ℕ). (s % 256) ⊕ u) (ap (λ (u : ℕ). u % 256) e ∙ eighth (s / 256 % 128) (omega arith))

-- a term T^i b: the lowest eight bits of X^i b, and what the others leave. X^i b fits in 64 bits.
pub term : (i b : ℕ) → i < 8 → b < 256 → shifts 8 feedback i b ≡ (b * 2 ^ i % 256) ⊕ shifts 8 feedback 8 (b * 2 ^ i / 256 % 128)
unfolding shift shifts
term = equal₂ 8 256 (λ i b. shifts 8 feedback i b) (λ i b. (b * 2 ^ i % 256) ⊕ shifts 8 feedback 8 (b * 2 ^ i / 256 % 128)) tt

pub term_fits : (i b : ℕ) → i < 8 → b < 256 → b * 2 ^ i % 2 ^ 64 ≡ b * 2 ^ i
term_fits = equal₂ 8 256 (λ i b. b * 2 ^ i % 2 ^ 64) (λ i b. b * 2 ^ i) tt

module _ (x : ℕ) where
  moved : ℕ → ℕ
  moved j = byte_at j x * 2 ^ j

  above : ℕ → ℕ
  above j = moved j / 256 % 128

  sum_above : xor_sum 8 moved / 256 % 128 ≡ xor_sum 8 above
  unfolding above
  sum_above = ap (λ (u : ℕ). u % 128) (sum_shr 8 8 moved) ∙ sum_mod 7 8 (λ j. moved j / 256)

  above_lt : (j : ℕ) → above j < 256
  unfolding above
  above_lt j = omega arith

  pub sum_reduced : (s : ℕ) → s ≡ xor_sum 8 (λ j. byte_at j x * 2 ^ j)
      → (s % 256) ⊕ shifts 8 feedback 8 (s / 256 % 128) ≡ check_syndrome 8 feedback (λ j. byte_at j x)
  unfolding check_syndrome above moved
  sum_reduced s e =
      ap (λ (u : ℕ). (u % 256) ⊕ shifts 8 feedback 8 (u / 256 % 128)) e
      ∙ ap₂ ◌⊕◌ (sum_mod 8 8 moved)
      (ap (shifts 8 feedback 8) sum_above ∙ shifts_sum 8 feedback 8 8 above (omega arith) (λ j _. above_lt j))
      ∙ sym (sum_xor 8 (λ j. moved j % 256) (λ j. shifts 8 feedback 8 (above j)))
      ∙ sym (sum_ext 8 _ _ (λ j h. term j (byte_at j x) h (byte_lt j x)))
