-- The spare bits of a bit map, by one shift of its last byte.
-- Assumes nothing.
use Prim.Native.Nat.{ℕ, ◌+◌, ◌-◌, ◌*◌, ◌/◌, ◌%◌, ◌^◌, ◌<◌}
use mathlib.Core.Path.{◌≡◌, refl, sym, ap, ◌∙◌}
use mathlib.Core.Bool.{Bool, true, false, true≢false}
use mathlib.Core.List.{List}
use native.Mathlib.Omega.{arith}
use borrow.Author.Tests.{eq-eqb, ne_eqb}
use lib.Dec.{eqb}
use lib.ListN.{get_or}
use lib.Pow.{pow_pos, shr_lt}
use Rattle.indexed.specs.Test.{all_below}
use Rattle.indexed.proofs.Test.{all_true}
use Rattle.register.specs.Bit.{bit}
use Rattle.register.proofs.Bit.{bit_shr}
use Rattle.register.proofs.Expand.{bit_of_zero, bits_ext}
use Rattle.sense_log.specs.Back.{group_bit, spare_clear}
use Rattle.sense_log.specs.Log.{bit_map_length}
use Rattle.sense_log.proofs.Bits.{group_bit_in}
use Rattle.sense_log.proofs.Good.{spare_told}

module _ (groups : ℕ) (log : List ℕ) where
  abbrev clear : ℕ → Bool
  clear k = eqb (group_bit log (groups + k)) 0

  -- eight groups to a byte leave no spare bit
  pub none_spare : groups % 8 ≡ 0 → spare_clear groups log ≡ true
  unfolding spare_clear
  none_spare h = let none : 8 * bit_map_length groups - groups ≡ 0 = omega arith in ap (λ (n : ℕ). all_below n clear) none

  -- otherwise those of the last byte are what a shift by the groups' bits leaves
  module _ (some : 0 < groups % 8) (byte : get_or log (groups / 8) 0 < 2 ^ 8) where
    abbrev left : ℕ
    left = get_or log (groups / 8) 0 / 2 ^ (groups % 8)

    spare_bits : 8 * bit_map_length groups - groups ≡ 8 - groups % 8
    spare_bits = omega arith

    spare_bit : (k : ℕ) → k < 8 - groups % 8 → group_bit log (groups + k) ≡ bit k left
    spare_bit k h =
        let place : groups + k ≡ 8 * (groups / 8) + (groups % 8 + k) = omega arith in
        ap (group_bit log) place
        ∙ group_bit_in log (groups / 8) (groups % 8 + k) (omega arith)
        ∙ sym (bit_shr k (groups % 8) (get_or log (groups / 8) 0))

    all_clear : left ≡ 0 → spare_clear groups log ≡ true
    unfolding spare_clear
    all_clear none =
        all_true (8 * bit_map_length groups - groups) clear
        (λ k h. eq-eqb (group_bit log (groups + k)) 0 (spare_bit k (omega (arith, spare_bits)) ∙ ap (bit k) none ∙ bit_of_zero k))

    none_left : spare_clear groups log ≡ true → left ≡ 0
    none_left e =
        let split : 8 - groups % 8 + groups % 8 ≡ 8 = omega arith in
        bits_ext (8 - groups % 8) left 0 (shr_lt (8 - groups % 8) (groups % 8) (rw split byte)) (pow_pos (8 - groups % 8))
        (λ k h. sym (spare_bit k h)
        ∙ spare_told groups log e (groups + k) (omega arith) (omega (arith, h, spare_bits))
        ∙ sym (bit_of_zero k))

    pub spare_shifted : eqb left 0 ≡ spare_clear groups log
    spare_shifted = by (spare_clear groups log) refl
      where
        by : (b : Bool) → spare_clear groups log ≡ b → eqb left 0 ≡ spare_clear groups log
        by true e = eq-eqb left 0 (none_left e) ∙ sym e
        by false e = ne_eqb left 0 (λ none. true≢false (sym (all_clear none) ∙ e)) ∙ sym e
