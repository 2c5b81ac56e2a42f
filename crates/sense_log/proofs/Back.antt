-- A written log is good, and reads back to the maps that it was written for.
-- Assumes nothing.
use mathlib.Core.Path.{◌≡◌, refl, sym, ap, ap₂, ◌∙◌}
use mathlib.Core.Bool.{Bool, true, cond}
use mathlib.Core.List.{List, [], ◌∷◌}
use Prim.Native.Nat.{ℕ, ◌+◌, ◌*◌, ◌/◌, ◌%◌, ◌<◌, ◌≤◌}
use native.Mathlib.Decide.{dec_lt}
use native.Mathlib.Omega.{arith}
use borrow.Author.Tests.{eq-eqb, ne_eqb, le-leb}
use lib.Dec.{eqb}
use lib.ListN.{length, get_or, get_or-eq_default}
use lib.Seq.{get_or-append-add}
use Rattle.indexed.specs.List.{total}
use Rattle.indexed.proofs.Joined.{get_or_joined}
use Rattle.indexed.proofs.Tabulate.{length_tabulate, tabulate_same, tabulate_get_or}
use Rattle.indexed.proofs.Total.{one_of_total}
use Rattle.answer.specs.Answer.{delivered}
use Rattle.sense_log.specs.Back.{group_bit, standing_bits, length_suits, content_suits, stored_map, map_back, maps_of, read_log_answer}
use Rattle.sense_log.specs.Log.{bit_map_length, standing, bit_map, map_bytes, log_of, track_marks}
use Rattle.sense_log.proofs.Answer.{back_all}
use Rattle.sense_log.proofs.Bits.{stored, bit_of, length_bit_map, length_stored, length_log, bit_written, bits_written}
use Rattle.sense_log.proofs.Good.{length_suits_lem, spare_clear_lem, maps_suit_lem, content_suits_lem}
use Rattle.sense_log.proofs.Standing.{standing_none, standing_some, standing_lt, two_bytes}

-- there is a map for each group
pub length_maps_of : (groups : ℕ) (log : List ℕ) → length (maps_of groups log) ≡ groups
unfolding maps_of
length_maps_of groups log = length_tabulate groups (map_back groups log)

module _ (maps : List ℕ) where
  abbrev log : List ℕ
  log = log_of maps

  -- byte k of the map of a group whose bit stands
  byte_stored : (g k : ℕ) → g < length maps → 0 < get_or maps g 0 → k < 2
      → get_or log (bit_map_length (length maps) + 2 * total g (bit_of maps) + k) 0 ≡ get_or (get_or maps g 0 % 256 ∷ get_or maps g 0 / 256 ∷ []) k 0
  unfolding log_of
  byte_stored g k h some b =
      let place : bit_map_length (length maps) + 2 * total g (bit_of maps) + k ≡ length (bit_map maps) + (length (stored maps g) + k) =
      omega (arith, length_bit_map maps, length_stored maps g) in
      let two = two_bytes (get_or maps g 0) some in
      ap (λ (i : ℕ). get_or log i 0) place
      ∙ get_or-append-add (bit_map maps) (stored maps (length maps)) (length (stored maps g) + k) 0
      ∙ get_or_joined (length maps) (λ g. map_bytes (get_or maps g 0)) g k h (omega (arith, ap length two))
      ∙ ap (λ (l : List ℕ). get_or l k 0) two

  -- the map that is stored for it
  pub map_stored : (g : ℕ) → g < length maps → 0 < get_or maps g 0 → stored_map (length maps) log (total g (bit_of maps)) ≡ get_or maps g 0
  unfolding stored_map
  map_stored g h some =
      let low = byte_stored g 0 h some (omega arith) in
      let high = byte_stored g 1 h some (omega arith) in
      let first : bit_map_length (length maps) + 2 * total g (bit_of maps) + 0 ≡ bit_map_length (length maps) + 2 * total g (bit_of maps) = omega arith in
      ap₂ (λ (x y : ℕ). x + 256 * y) (ap (λ (i : ℕ). get_or log i 0) (sym first) ∙ low) high ∙ omega arith

  pub map_back_lem : (g : ℕ) → g < length maps → map_back (length maps) log g ≡ get_or maps g 0
  unfolding map_back
  map_back_lem g h = by (dec_lt 0 (get_or maps g 0))
    where
      bit_is : group_bit log g ≡ bit_of maps g
      bit_is = bit_written maps g (omega arith)

      by : Dec (0 < get_or maps g 0) → cond (eqb (group_bit log g) 0) 0 (stored_map (length maps) log (standing_bits log g)) ≡ get_or maps g 0
      by (yes some) =
          ap (λ (b : Bool). cond b 0 (stored_map (length maps) log (standing_bits log g)))
          (ne_eqb (group_bit log g) 0 (λ e. omega (arith, bit_is, standing_some (get_or maps g 0) some)))
          ∙ ap (stored_map (length maps) log) (bits_written maps g (omega arith))
          ∙ map_stored g h some
      by (no none) =
          let zero_map : get_or maps g 0 ≡ 0 = omega arith in
          ap (λ (b : Bool). cond b 0 (stored_map (length maps) log (standing_bits log g)))
          (eq-eqb (group_bit log g) 0 (bit_is ∙ standing_none (get_or maps g 0) zero_map))
          ∙ sym zero_map

  -- what a written log reads back to
  pub maps_back : maps_of (length maps) log ≡ maps
  unfolding maps_of
  maps_back = tabulate_same (length maps) _ _ map_back_lem ∙ tabulate_get_or (length maps) maps refl

  -- a log of 1 to 586 maps of nine bits is good
  module _ (some : 0 < length maps) (most : length maps ≤ 586) (nine : (g : ℕ) → g < length maps → get_or maps g 0 ≤ 511) where
    pub log_length : length_suits (length maps) log ≡ true
    log_length = length_suits_lem (length maps) log some most (omega (arith, length_log maps, bits_written maps (length maps) (omega arith)))

    pub log_content : content_suits (length maps) log ≡ true
    log_content =
        content_suits_lem (length maps) log
        (spare_clear_lem (length maps) log
        (λ g h b. bit_written maps g b ∙ standing_none (get_or maps g 0) (get_or-eq_default maps 0 {n = g} h)))
        (maps_suit_lem (length maps) log kth)
      where
        kth : (k : ℕ) → k < standing_bits log (length maps) → (0 < stored_map (length maps) log k) × (stored_map (length maps) log k ≤ 511)
        kth k h =
            let found = one_of_total (length maps) (bit_of maps) (λ g. standing_lt (get_or maps g 0)) k (omega (arith, bits_written maps (length maps) (omega arith))) in
            let g = found.0 in
            let stands : 0 < get_or maps g 0 = positive (get_or maps g 0) found.2 in
            let is : stored_map (length maps) log k ≡ get_or maps g 0 = ap (stored_map (length maps) log) (sym found.3) ∙ map_stored g found.1 stands in
            (omega (arith, is, stands), omega (arith, is, nine g found.1))
          where
            positive : (m : ℕ) → standing m ≡ 1 → 0 < m
            positive m e = by (dec_lt 0 m)
              where
                by : Dec (0 < m) → 0 < m
                by (yes h) = h
                by (no h) = absurd (omega (arith, standing_none m (omega arith)))

    pub log_delivered : (space : ℕ) → length maps ≤ space → read_log_answer (length maps) log space ≡ delivered (track_marks maps)
    log_delivered space h =
        back_all (length maps) log space (le-leb (length maps) space h) log_length log_content
        ∙ ap (λ (l : List ℕ). delivered (track_marks l)) maps_back
