-- The bits of a log, and those of a written one: the length of its bit map, and each group's bit in it.
-- Assumes nothing.
use mathlib.Core.Path.{◌≡◌, ap, ap₂, ◌∙◌}
use mathlib.Core.List.{List}
use Prim.Native.Nat.{ℕ, ◌+◌, ◌*◌, ◌/◌, ◌%◌, ◌<◌, ◌≤◌}
use native.Mathlib.Numerals.{add-one}
use native.Mathlib.Omega.{arith}
use lib.ListN.{length, get_or, length-append, get_or-append}
use Rattle.indexed.specs.List.{blocks, total}
use Rattle.indexed.proofs.Tabulate.{length_tabulate, get_d_tabulate}
use Rattle.indexed.proofs.Joined.{length_joined}
use Rattle.indexed.proofs.Total.{total_same, total_within, total_digits, total_twice}
use Rattle.register.specs.Bit.{bit}
use Rattle.register.proofs.Bit.{bit_lt}
use Rattle.register.proofs.Ones.{bit_of_tabulate}
use Rattle.sense_log.specs.Back.{group_bit, standing_bits}
use Rattle.sense_log.specs.Log.{bit_map_length, standing, bit_map_byte, bit_map, map_bytes, log_of}
use Rattle.sense_log.proofs.Standing.{standing_lt, length_map_bytes}

-- ---- of any log

module _ (log : List ℕ) where
  pub group_bit_lt : (g : ℕ) → group_bit log g < 2
  unfolding group_bit
  group_bit_lt g = bit_lt (g % 8) (get_or log (g / 8) 0)

  -- one group more
  pub standing_more : (g : ℕ) → standing_bits log (g + 1) ≡ standing_bits log g + group_bit log g
  unfolding standing_bits total
  standing_more g = ap (λ (n : ℕ). total n (group_bit log)) (add-one g)

  -- a bit a group at most, and that of each group among them
  pub standing_le : (groups : ℕ) → standing_bits log groups ≤ groups
  unfolding standing_bits
  standing_le groups = total_digits groups (group_bit log) group_bit_lt

  pub standing_within : (groups g : ℕ) → g < groups → standing_bits log g + group_bit log g ≤ standing_bits log groups
  unfolding standing_bits
  standing_within groups g h = total_within groups (group_bit log) g h

  -- the groups of byte b
  pub group_bit_in : (b k : ℕ) → k < 8 → group_bit log (8 * b + k) ≡ bit k (get_or log b 0)
  unfolding group_bit
  group_bit_in b k h =
      let place : (8 * b + k) % 8 ≡ k = omega arith in
      let byte : (8 * b + k) / 8 ≡ b = omega arith in
      ap₂ (λ (i j : ℕ). bit i (get_or log j 0)) place byte

-- ---- of a written one

module _ (maps : List ℕ) where
  -- the bytes behind the bit map, of the first groups
  abbrev pub stored : ℕ → List ℕ
  stored n = blocks n (λ g. map_bytes (get_or maps g 0))

  -- the bit of group g
  abbrev pub bit_of : ℕ → ℕ
  bit_of g = standing (get_or maps g 0)

  pub length_bit_map : length (bit_map maps) ≡ bit_map_length (length maps)
  unfolding bit_map
  length_bit_map = length_tabulate (bit_map_length (length maps)) (bit_map_byte maps)

  pub length_stored : (n : ℕ) → length (stored n) ≡ 2 * total n bit_of
  length_stored n =
      length_joined n (λ g. map_bytes (get_or maps g 0)) ∙ total_twice n _ bit_of (λ g. length_map_bytes (get_or maps g 0))

  pub length_log : length (log_of maps) ≡ bit_map_length (length maps) + 2 * total (length maps) bit_of
  unfolding log_of
  length_log = omega (arith, length-append (bit_map maps) (stored (length maps)), length_bit_map, length_stored (length maps))

  pub bit_written : (g : ℕ) → g < 8 * bit_map_length (length maps) → group_bit (log_of maps) g ≡ bit_of g
  unfolding group_bit log_of bit_map bit_map_byte
  bit_written g h =
      ap (bit (g % 8))
      (get_or-append (bit_map maps) (stored (length maps)) 0 (g / 8) (omega (arith, length_bit_map))
      ∙ get_d_tabulate (bit_map_length (length maps)) (bit_map_byte maps) (g / 8) 0 (omega arith))
      ∙ bit_of_tabulate 8 (λ i. bit_of (8 * (g / 8) + i)) (λ i b. standing_lt (get_or maps (8 * (g / 8) + i) 0)) (g % 8) (omega arith)
      ∙ ap bit_of (omega arith)

  pub bits_written : (n : ℕ) → n ≤ length maps → standing_bits (log_of maps) n ≡ total n bit_of
  unfolding standing_bits
  bits_written n h = total_same n _ _ (λ g b. bit_written g (omega arith))

  pub bits_below : (n : ℕ) → total n bit_of ≤ n
  bits_below n = total_digits n bit_of (λ g. standing_lt (get_or maps g 0))
