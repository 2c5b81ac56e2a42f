-- A good log, when what it reads back to is written, gives that log; so one set of changes has one log.
-- Assumes nothing.
use mathlib.Core.Path.{◌≡◌, refl, sym, ap, ap₂, ◌∙◌}
use mathlib.Core.Bool.{Bool, true, cond}
use mathlib.Core.List.{List, [], ◌∷◌, ◌++◌, append-nil}
use Prim.Native.Nat.{ℕ, zero, suc, ◌+◌, ◌*◌, ◌/◌, ◌%◌, ◌<◌, ◌≤◌}
use native.Mathlib.Nat.{not-suc-le-zero, le_of_suc-le-suc}
use native.Mathlib.Decide.{dec_lt}
use native.Mathlib.Omega.{arith}
use borrow.Author.Tests.{eq-eqb, ne_eqb}
use lib.ListN.{length, get_or, take, drop, length-drop, take-append-drop, get_or-eq_default}
use lib.Seq.{get_or-drop, get_or-take, length-take-le, take-add, take_all}
use Rattle.indexed.specs.List.{tabulate, blocks, total}
use Rattle.indexed.proofs.Blocks.{blocks_same}
use Rattle.indexed.proofs.Tabulate.{get_d_tabulate, tabulate_same, tabulate_get_or}
use Rattle.register.specs.Bit.{bits_of, of_bits}
use Rattle.register.proofs.Bit.{of_bits_bits_of}
use Rattle.sense_log.specs.Back.{group_bit, standing_bits, length_suits, content_suits, stored_map, map_back, maps_of}
use Rattle.sense_log.specs.Log.{bit_map_length, standing, bit_map_byte, bit_map, map_bytes, log_of}
use Rattle.sense_log.proofs.Back.{length_maps_of}
use Rattle.sense_log.proofs.Bits.{group_bit_lt, standing_within, group_bit_in}
use Rattle.sense_log.proofs.Good.{length_told_lem, spare_told, maps_told, content_told}
use Rattle.sense_log.proofs.Standing.{standing_none, standing_some, no_bytes, two_bytes}

-- the first two elements
first_two : (l : List ℕ) (a b : ℕ) → 2 ≤ length l → get_or l 0 0 ≡ a → get_or l 1 0 ≡ b → take 2 l ≡ a ∷ b ∷ []
first_two [] a b h e f = absurd (not-suc-le-zero h)
first_two (x ∷ []) a b h e f = absurd (not-suc-le-zero (le_of_suc-le-suc h))
first_two (x ∷ y ∷ rest) a b h e f = ap₂ (λ (p q : ℕ). p ∷ q ∷ []) e f

module _ (groups : ℕ) (log : List ℕ) (bytes : (k : ℕ) → get_or log k 0 < 256) (suits : length_suits groups log ≡ true)
    (good : content_suits groups log ≡ true) where
  abbrev maps : List ℕ
  maps = maps_of groups log

  abbrev long : length log ≡ bit_map_length groups + 2 * standing_bits log groups
  long = (length_told_lem groups log suits).2

  as_many : length maps ≡ groups
  as_many = length_maps_of groups log

  map_of : (g : ℕ) → g < groups → get_or maps g 0 ≡ map_back groups log g
  unfolding maps_of
  map_of g h = get_d_tabulate groups (map_back groups log) g 0 h

  -- the map of a group, by its bit
  map_none : (g : ℕ) → group_bit log g ≡ 0 → map_back groups log g ≡ 0
  unfolding map_back
  map_none g e = ap (λ (b : Bool). cond b 0 (stored_map groups log (standing_bits log g))) (eq-eqb (group_bit log g) 0 e)

  map_some : (g : ℕ) → group_bit log g ≡ 1 → map_back groups log g ≡ stored_map groups log (standing_bits log g)
  unfolding map_back
  map_some g e =
      ap (λ (b : Bool). cond b 0 (stored_map groups log (standing_bits log g))) (ne_eqb (group_bit log g) 0 (λ z. omega (arith, e, z)))

  counted : (g : ℕ) → g < groups → group_bit log g ≡ 1 → standing_bits log g < standing_bits log groups
  counted g h e = omega (arith, standing_within log groups g h, e)

  map_positive : (g : ℕ) → g < groups → group_bit log g ≡ 1 → 0 < map_back groups log g
  map_positive g h e =
      rw (map_some g e) (maps_told groups log (content_told groups log good).1 (standing_bits log g) (counted g h e)).0

  -- ---- the bit map

  bit_again : (g : ℕ) → g < 8 * bit_map_length groups → standing (get_or maps g 0) ≡ group_bit log g
  bit_again g b = by (dec_lt g groups)
    where
      inside : g < groups → Dec (group_bit log g < 1) → standing (get_or maps g 0) ≡ group_bit log g
      inside h (yes none) =
          let zero_bit : group_bit log g ≡ 0 = omega arith in
          standing_none (get_or maps g 0) (map_of g h ∙ map_none g zero_bit) ∙ sym zero_bit
      inside h (no some) =
          let one_bit : group_bit log g ≡ 1 = omega (arith, group_bit_lt log g) in
          standing_some (get_or maps g 0) (rw (map_of g h) (map_positive g h one_bit)) ∙ sym one_bit

      by : Dec (g < groups) → standing (get_or maps g 0) ≡ group_bit log g
      by (yes h) = inside h (dec_lt (group_bit log g) 1)
      by (no h) =
          standing_none (get_or maps g 0) (get_or-eq_default maps 0 {n = g} (omega (arith, as_many)))
          ∙ sym (spare_told groups log (content_told groups log good).0 g (omega arith) b)

  byte_again : (b : ℕ) → b < bit_map_length groups → bit_map_byte maps b ≡ get_or log b 0
  unfolding bit_map_byte bits_of
  byte_again b h =
      ap of_bits (tabulate_same 8 _ _ (λ i c. bit_again (8 * b + i) (omega arith) ∙ group_bit_in log b i c))
      ∙ of_bits_bits_of 8 (get_or log b 0) (bytes b)

  bit_map_again : bit_map maps ≡ take (bit_map_length groups) log
  unfolding bit_map
  bit_map_again =
      ap (λ (n : ℕ). tabulate (bit_map_length n) (bit_map_byte maps)) as_many
      ∙ tabulate_same (bit_map_length groups) _ _ (λ b h. byte_again b h ∙ sym (get_or-take (bit_map_length groups) log b 0 h))
      ∙ tabulate_get_or (bit_map_length groups) (take (bit_map_length groups) log) (length-take-le (bit_map_length groups) log (omega (arith, long)))

  -- ---- the maps behind it

  abbrev behind : List ℕ
  behind = drop (bit_map_length groups) log

  length_behind : length behind ≡ 2 * standing_bits log groups
  length_behind = omega (arith, length-drop (bit_map_length groups) log, long)

  two_again : (g : ℕ) → g < groups → group_bit log g ≡ 1 → map_bytes (map_back groups log g) ≡ take 2 (drop (2 * standing_bits log g) behind)
  unfolding stored_map
  two_again g h e =
      let k = standing_bits log g in
      let low = get_or log (bit_map_length groups + 2 * k) 0 in
      let high = get_or log (bit_map_length groups + 2 * k + 1) 0 in
      let place : bit_map_length groups + (2 * k + 0) ≡ bit_map_length groups + 2 * k = omega arith in
      let next : bit_map_length groups + (2 * k + 1) ≡ bit_map_length groups + 2 * k + 1 = omega arith in
      let first : (low + 256 * high) % 256 ≡ low = omega (arith, bytes (bit_map_length groups + 2 * k)) in
      let second : (low + 256 * high) / 256 ≡ high = omega (arith, bytes (bit_map_length groups + 2 * k)) in
      two_bytes (map_back groups log g) (map_positive g h e)
      ∙ ap (λ (m : ℕ). m % 256 ∷ m / 256 ∷ []) (map_some g e)
      ∙ ap₂ (λ (x y : ℕ). x ∷ y ∷ []) first second
      ∙ sym (first_two (drop (2 * k) behind) low high
      (omega (arith, length-drop (2 * k) behind, length_behind, counted g h e))
      (get_or-drop (2 * k) behind 0 0 ∙ get_or-drop (bit_map_length groups) log (2 * k + 0) 0 ∙ ap (λ (i : ℕ). get_or log i 0) place)
      (get_or-drop (2 * k) behind 1 0 ∙ get_or-drop (bit_map_length groups) log (2 * k + 1) 0 ∙ ap (λ (i : ℕ). get_or log i 0) next))

  maps_again : (n : ℕ) → n ≤ groups → blocks n (λ g. map_bytes (map_back groups log g)) ≡ take (2 * standing_bits log n) behind
  unfolding blocks standing_bits total
  maps_again zero h = refl
  maps_again (suc n) h = by (dec_lt (group_bit log n) 1) (maps_again n (omega arith))
    where
      by : Dec (group_bit log n < 1) → blocks n (λ g. map_bytes (map_back groups log g)) ≡ take (2 * standing_bits log n) behind
          → blocks n (λ g. map_bytes (map_back groups log g)) ++ map_bytes (map_back groups log n) ≡ take (2 * (standing_bits log n + group_bit log n)) behind
      by (yes none) before =
          let zero_bit : group_bit log n ≡ 0 = omega arith in
          let same : 2 * (standing_bits log n + group_bit log n) ≡ 2 * standing_bits log n = omega (arith, zero_bit) in
          ap₂ ◌++◌ before (no_bytes (map_back groups log n) (map_none n zero_bit))
          ∙ append-nil (take (2 * standing_bits log n) behind)
          ∙ ap (λ (k : ℕ). take k behind) (sym same)
      by (no some) before =
          let one_bit : group_bit log n ≡ 1 = omega (arith, group_bit_lt log n) in
          let more : 2 * (standing_bits log n + group_bit log n) ≡ 2 * standing_bits log n + 2 = omega (arith, one_bit) in
          ap₂ ◌++◌ before (two_again n h one_bit)
          ∙ sym (take-add (2 * standing_bits log n) 2 behind)
          ∙ ap (λ (k : ℕ). take k behind) (sym more)

  -- what is written again
  pub log_again : log_of (maps_of groups log) ≡ log
  unfolding log_of
  log_again =
      ap₂ ◌++◌ bit_map_again
      (ap (λ (n : ℕ). blocks n (λ g. map_bytes (get_or maps g 0))) as_many
      ∙ blocks_same groups _ _ (λ g h. ap map_bytes (map_of g h))
      ∙ maps_again groups (omega arith)
      ∙ take_all (2 * standing_bits log groups) behind (omega (arith, length_behind)))
      ∙ take-append-drop (bit_map_length groups) log

-- one set of changes has one log
pub one_log : (groups : ℕ) (one another : List ℕ) → ((k : ℕ) → get_or one k 0 < 256) → ((k : ℕ) → get_or another k 0 < 256)
    → length_suits groups one ≡ true → content_suits groups one ≡ true → length_suits groups another ≡ true → content_suits groups another ≡ true
    → maps_of groups one ≡ maps_of groups another → one ≡ another
one_log groups one another bytes bytes' suits good suits' good' same =
    sym (log_again groups one bytes suits good) ∙ ap log_of same ∙ log_again groups another bytes' suits' good'
