-- A log as it is stored: each byte of its bit map from its bits, the highest first, and each map behind those before it.
-- Assumes nothing.
use mathlib.Core.Path.{◌≡◌, refl, sym, ap, ap₂, ◌∙◌}
use mathlib.Core.List.{List, [], ◌∷◌, ◌++◌}
use Prim.Native.Nat.{ℕ, suc, ◌+◌, ◌-◌, ◌*◌, ◌/◌, ◌%◌, ◌^◌, ◌<◌, ◌≤◌}
use native.Mathlib.Nat.{zero-add}
use native.Mathlib.Numerals.{add-one}
use native.Mathlib.Omega.{arith}
use lib.ListN.{length, get_or, take, drop, length-append}
use lib.Seq.{sets, sets-eq, take-length}
use borrow.Rule.Slice.PartMut.{put_mid}
use mir.Syntax.{w16}
use Rattle.std.specs.Int.{to_le_bytes}
use Rattle.std.proofs.lemmas.Slice.{put_mid-paste}
use Rattle.indexed.specs.List.{tabulate, blocks}
use Rattle.indexed.proofs.Stores.{sets_append}
use Rattle.indexed.proofs.Tabulate.{length_tabulate, get_d_tabulate}
use Rattle.register.specs.Bit.{of_bits}
use Rattle.register.proofs.Bit.{of_bits_drop, of_bits_drop_le}
use Rattle.register.proofs.Ones.{tabulated_lt}
use Rattle.sense_log.specs.Log.{bit_map_length, standing, bit_map_byte, bit_map, map_bytes, log_of}
use Rattle.sense_log.proofs.Bits.{stored, length_bit_map}
use Rattle.sense_log.proofs.Standing.{standing_lt}

-- ---- one byte of the bit map

module _ (changed : List ℕ) (b : ℕ) where
  abbrev bits : List ℕ
  bits = tabulate 8 (λ i. standing (get_or changed (8 * b + i) 0))

  -- the bits from i on, as they are entered
  abbrev pub entered : ℕ → ℕ
  entered i = of_bits (drop i bits)

  -- one more
  entered_more : (i : ℕ) → i < 8 → entered i ≡ standing (get_or changed (8 * b + i) 0) + 2 * entered (suc i)
  entered_more i h =
      of_bits_drop bits i (omega (arith, length_tabulate 8 (λ i. standing (get_or changed (8 * b + i) 0))))
      ∙ ap (λ (x : ℕ). x + 2 * entered (suc i)) (get_d_tabulate 8 (λ i. standing (get_or changed (8 * b + i) 0)) i 0 h)

  pub entered_lt : (i : ℕ) → entered i < 256
  entered_lt i = omega (arith, of_bits_drop_le bits i, tabulated_lt 8 (λ i. standing (get_or changed (8 * b + i) 0)) (λ i h. standing_lt (get_or changed (8 * b + i) 0)))

  -- the bit before those from i on, entered
  pub entered_next : (i : ℕ) → 0 < i → i ≤ 8 → 2 * entered i + standing (get_or changed (8 * b + (i - 1)) 0) ≡ entered (i - 1)
  entered_next i h most =
      let one : suc (i - 1) ≡ i = omega arith in
      let more = entered_more (i - 1) (omega arith) in
      let same : entered (suc (i - 1)) ≡ entered i = ap entered one in
      omega (arith, more, same)

  pub entered_all : entered 0 ≡ bit_map_byte changed b
  unfolding bit_map_byte
  entered_all = refl

-- its place in the bit map
pub get_or_bit_map : (changed : List ℕ) (b : ℕ) → b < bit_map_length (length changed) → get_or (bit_map changed) b 0 ≡ bit_map_byte changed b
unfolding bit_map
get_or_bit_map changed b h = get_d_tabulate (bit_map_length (length changed)) (bit_map_byte changed) b 0 h

-- ---- a part of the log that is stored at once

pub part_stored : (at k : ℕ) (log part : List ℕ) → k ≡ length part → at + length part ≤ length log → put_mid at k log part ≡ sets log at part
part_stored at k log part long within =
    put_mid-paste at k log part part (length part) refl (sym long) refl
    ∙ ap (λ (l : List ℕ). take at log ++ l ++ drop (at + length part) log) (take-length part)
    ∙ sym (sets-eq part log at within)

-- the bit map, which is stored in front
pub bit_map_stored : (changed log part : List ℕ) (front : ℕ) → front ≡ bit_map_length (length changed) → part ≡ bit_map changed
    → bit_map_length (length changed) ≤ length log → part ++ drop front log ≡ sets log 0 (bit_map changed)
bit_map_stored changed log part front size made within =
    let long = length_bit_map changed in
    ap₂ (λ (l : List ℕ) (n : ℕ). l ++ drop n log) made (size ∙ sym (zero-add (length (bit_map changed)) ∙ long))
    ∙ sym (sets-eq (bit_map changed) log 0 (omega (arith, long)))

-- the two bytes of a map
pub bytes_of_map : (map : ℕ) → map < 2 ^ 16 → to_le_bytes w16 map ≡ map % 256 ∷ map / 256 ∷ []
bytes_of_map map h = let high : map / 256 % 256 ≡ map / 256 = omega (arith, h) in ap (λ (n : ℕ). map % 256 ∷ n ∷ []) high

-- ---- the maps behind it

module _ (changed log : List ℕ) (at : ℕ) (log' : List ℕ) where
  -- one group's more
  pub maps_more : (end g : ℕ) → end ≡ at + length (stored changed g) → log' ≡ sets log at (stored changed g)
      → sets log' end (map_bytes (get_or changed g 0)) ≡ sets log at (stored changed (g + 1))
  unfolding blocks
  maps_more end g behind e =
      ap₂ (λ (l : List ℕ) (k : ℕ). sets l k (map_bytes (get_or changed g 0))) e behind
      ∙ sets_append (stored changed g) (map_bytes (get_or changed g 0)) log at
      ∙ ap (λ (n : ℕ). sets log at (stored changed n)) (sym (add-one g))

  -- the whole log
  pub log_stored : (g : ℕ) (before : List ℕ) → g ≡ length changed → at ≡ bit_map_length (length changed) → log ≡ sets before 0 (bit_map changed)
      → log' ≡ sets log at (stored changed g) → log' ≡ sets before 0 (log_of changed)
  unfolding log_of
  log_stored g before all size made e =
      e
      ∙ ap₂ (λ (k n : ℕ). sets log k (stored changed n)) (size ∙ sym (zero-add _ ∙ length_bit_map changed)) all
      ∙ ap (λ (l : List ℕ). sets l (0 + length (bit_map changed)) (stored changed (length changed))) made
      ∙ sets_append (bit_map changed) (stored changed (length changed)) before 0

pub length_more : (changed : List ℕ) (g : ℕ) → length (stored changed g) + length (map_bytes (get_or changed g 0)) ≡ length (stored changed (g + 1))
unfolding blocks
length_more changed g =
    sym (length-append (stored changed g) (map_bytes (get_or changed g 0))) ∙ ap (λ (n : ℕ). length (stored changed n)) (sym (add-one g))
