-- What suits in a log: its length and its maps, and what a length that suits says.
-- Assumes nothing.
use Prim.Native.Nat.{ℕ, ◌+◌, ◌-◌, ◌*◌, ◌/◌, ◌<◌, ◌≤◌}
use mathlib.Core.Path.{◌≡◌, refl, sym, ap, ◌∙◌}
use mathlib.Core.Bool.{Bool, true, false, cond, ◌&&◌}
use mathlib.Core.List.{List}
use native.Mathlib.Omega.{arith}
use borrow.Author.Tests.{le-leb, lt-leb, lt-ltb, le-ltb, eq-eqb, ne_eqb}
use lib.Dec.{eqb, leb, ltb}
use lib.ListN.{length, replicate, length-replicate, get_or-replicate}
use lib.Seq.{ext_get_or}
use Rattle.indexed.specs.List.{tabulate, total}
use Rattle.indexed.proofs.Tabulate.{length_tabulate, get_d_tabulate, tabulate_same}
use Rattle.indexed.proofs.Test.{all_true, all_false}
use Rattle.indexed.proofs.Total.{none_of_total}
use Rattle.rectangular.specs.Constants.{most_map, most_groups}
use Rattle.sense_log.specs.Back.{group_bit, standing_bits, suiting_length, length_suits, stored_map, maps_suit, map_back, maps_of}
use Rattle.sense_log.specs.Log.{bit_map_length}
use Rattle.sense_log.proofs.Bits.{standing_within}
use Rattle.sense_log.proofs.Good.{length_told_lem}

module _ (groups : ℕ) (log : List ℕ) where
  -- ---- each way in which a length does not suit

  pub no_groups : groups ≡ 0 → false ≡ length_suits groups log
  unfolding length_suits
  no_groups e = rw (le-ltb 0 groups (omega arith)) refl

  pub many_groups : most_groups < groups → false ≡ length_suits groups log
  unfolding length_suits
  many_groups h = rw (lt-ltb 0 groups (omega arith), lt-leb groups most_groups h) refl

  module _ (some : 0 < groups) (few : groups ≤ most_groups) where
    pub by_length : eqb (length log) (bit_map_length groups + 2 * standing_bits log groups) ≡ length_suits groups log
    unfolding length_suits suiting_length
    by_length = rw (lt-ltb 0 groups some, le-leb groups most_groups few) refl

    pub no_bit_map : length log < bit_map_length groups → false ≡ length_suits groups log
    no_bit_map h = sym (ne_eqb (length log) (bit_map_length groups + 2 * standing_bits log groups) (λ e. omega arith)) ∙ by_length

  -- ---- what one that suits says

  module _ (suits : length_suits groups log ≡ true) where
    -- so many maps stand behind the bit map
    pub maps_stored : (length log - bit_map_length groups) / 2 ≡ standing_bits log groups
    maps_stored = omega (arith, (length_told_lem groups log suits).2)

    -- a log that is its bit map has no bit that stands
    pub none_marked : length log ≡ bit_map_length groups → maps_of groups log ≡ tabulate groups (λ g. 0)
    unfolding maps_of map_back standing_bits
    none_marked short =
        let none : total groups (group_bit log) ≡ 0 = omega (arith, (length_told_lem groups log suits).2) in
        tabulate_same groups (map_back groups log) (λ g. 0)
        (λ g h. ap (λ (b : Bool). cond b 0 (stored_map groups log (standing_bits log g))) (eq-eqb (group_bit log g) 0 (none_of_total groups (group_bit log) none g h)))

    -- the two bytes of a group whose bit stands are in the log
    pub map_within : (g : ℕ) → g < groups → 0 < group_bit log g → bit_map_length groups + 2 * standing_bits log g + 1 < length log
    map_within g h stands = omega (arith, (length_told_lem groups log suits).2, standing_within log groups g h)

  -- ---- the maps

  abbrev pub suited : ℕ → Bool
  suited k = ltb 0 (stored_map groups log k) && leb (stored_map groups log k) most_map

  pub one_unsuited : (k : ℕ) → k < standing_bits log groups → suited k ≡ false → false ≡ maps_suit groups log
  unfolding maps_suit
  one_unsuited k h e = sym (all_false (standing_bits log groups) suited k h e)

  pub all_suited : ((k : ℕ) → k < standing_bits log groups → suited k ≡ true) → true ≡ maps_suit groups log
  unfolding maps_suit
  all_suited h = sym (all_true (standing_bits log groups) suited h)

-- zeros stored
pub zeros : (n : ℕ) → replicate {A = ℕ} n 0 ≡ tabulate n (λ g. 0)
zeros n =
    ext_get_or 0 _ _ (length-replicate n 0 ∙ sym (length_tabulate n (λ g. 0)))
    (λ k b. let within : k < n = omega (arith, b, length-replicate {A = ℕ} n 0) in
    get_or-replicate n k 0 0 within ∙ sym (get_d_tabulate n (λ g. 0) k 0 within))
