-- A good log: what it says that its length suits, that its spare bits are zero, and that its maps are those of a reading; and back.
-- Assumes nothing.
use mathlib.Core.Path.{◌≡◌, sym, ap₂, subst}
use mathlib.Core.Bool.{true, ◌&&◌}
use mathlib.Core.List.{List}
use Prim.Native.Nat.{ℕ, ◌+◌, ◌-◌, ◌*◌, ◌<◌, ◌≤◌}
use native.Mathlib.Omega.{arith}
use borrow.Author.Tests.{leb-true, eqb-true, ltb-true, le-leb, lt-ltb, eq-eqb}
use lib.Dec.{T, eqb, eqb→eq, leb, ltb, ltb→lt, leb→le}
use lib.ListN.{length}
use Rattle.indexed.proofs.Test.{both_true, both_left, both_right, tested, all_true}
use Rattle.sense_log.specs.Back.{group_bit, standing_bits, suiting_length, length_suits, spare_clear, stored_map, maps_suit, content_suits}
use Rattle.sense_log.specs.Log.{bit_map_length}

module _ (groups : ℕ) (log : List ℕ) where
  pub length_told_lem : length_suits groups log ≡ true
      → (0 < groups) × (groups ≤ 586) × (length log ≡ bit_map_length groups + 2 * standing_bits log groups)
  unfolding length_suits suiting_length
  length_told_lem e =
      let both = both_true (ltb 0 groups && leb groups 586) (eqb (length log) (suiting_length groups log)) e in
      let within = both_true (ltb 0 groups) (leb groups 586) both.0 in
      (ltb-true 0 groups within.0, leb-true groups 586 within.1, eqb-true (length log) (suiting_length groups log) both.1)

  pub length_suits_lem : 0 < groups → groups ≤ 586 → length log ≡ bit_map_length groups + 2 * standing_bits log groups → length_suits groups log ≡ true
  unfolding length_suits suiting_length
  length_suits_lem some most long =
      ap₂ ◌&&◌ (ap₂ ◌&&◌ (lt-ltb 0 groups some) (le-leb groups 586 most)) (eq-eqb (length log) (suiting_length groups log) long)

  pub spare_told : spare_clear groups log ≡ true → (g : ℕ) → groups ≤ g → g < 8 * bit_map_length groups → group_bit log g ≡ 0
  unfolding spare_clear
  spare_told e g h b =
      let same : groups + (g - groups) ≡ g = omega arith in
      subst (λ (k : ℕ). group_bit log k ≡ 0) same
      (eqb→eq (group_bit log (groups + (g - groups))) 0
      (tested (8 * bit_map_length groups - groups) (λ k. eqb (group_bit log (groups + k)) 0) (subst T (sym e) tt) (g - groups) (omega arith)))

  pub spare_clear_lem : ((g : ℕ) → groups ≤ g → g < 8 * bit_map_length groups → group_bit log g ≡ 0) → spare_clear groups log ≡ true
  unfolding spare_clear
  spare_clear_lem zeros =
      all_true (8 * bit_map_length groups - groups) (λ k. eqb (group_bit log (groups + k)) 0) (λ k b. eq-eqb (group_bit log (groups + k)) 0 (zeros (groups + k) (omega arith) (omega (arith, b))))

  pub maps_told : maps_suit groups log ≡ true → (k : ℕ) → k < standing_bits log groups → (0 < stored_map groups log k) × (stored_map groups log k ≤ 511)
  unfolding maps_suit
  maps_told e k b =
      let t = tested (standing_bits log groups) (λ k. ltb 0 (stored_map groups log k) && leb (stored_map groups log k) 511) (subst T (sym e) tt) k b in
      (ltb→lt 0 (stored_map groups log k) (both_left (ltb 0 (stored_map groups log k)) (leb (stored_map groups log k) 511) t), leb→le (stored_map groups log k) 511 (both_right (ltb 0 (stored_map groups log k)) (leb (stored_map groups log k) 511) t))

  pub maps_suit_lem : ((k : ℕ) → k < standing_bits log groups → (0 < stored_map groups log k) × (stored_map groups log k ≤ 511)) → maps_suit groups log ≡ true
  unfolding maps_suit
  maps_suit_lem suit =
      all_true (standing_bits log groups) _ (λ k b. ap₂ ◌&&◌ (lt-ltb 0 (stored_map groups log k) (suit k b).0) (le-leb (stored_map groups log k) 511 (suit k b).1))

  pub content_told : content_suits groups log ≡ true → (spare_clear groups log ≡ true) × (maps_suit groups log ≡ true)
  unfolding content_suits
  content_told e = both_true (spare_clear groups log) (maps_suit groups log) e

  pub content_suits_lem : spare_clear groups log ≡ true → maps_suit groups log ≡ true → content_suits groups log ≡ true
  unfolding content_suits
  content_suits_lem clear suit = ap₂ ◌&&◌ clear suit
