-- A reading that passed: how many groups it has, and that its words have ten bits; and the groups of a body.
-- Assumes nothing.
use mathlib.Core.Path.{◌≡◌}
use mathlib.Core.Bool.{Bool, true, false, ◌&&◌}
use mathlib.Core.List.{List}
use Prim.Native.Nat.{ℕ, ◌-◌, ◌*◌, ◌<◌, ◌≤◌}
use native.Mathlib.Omega.{arith}
use borrow.Author.Tests.{ltb-true, ltb-false, leb-true, eqb-true}
use lib.Dec.{eqb, leb, ltb}
use lib.ListN.{length, get_or, drop, length-drop}
use lib.Seq.{length-take-le}
use Rattle.rectangular.specs.Constants.{numbers_per_group}
use Rattle.record6250.specs.Fits.{Passes}
use Rattle.record6250.specs.Picture.{group_read}
use Rattle.record6250.specs.Read.{read_numbers, read_group, read_map, lengths_suit, last_byte, unpadded, stray_at, first_stray}
use Rattle.record6250.specs.Record.{group_bytes}
use Rattle.record6250.specs.Tape.{stray_numbers}
use Rattle.record6250.proofs.Bounded.{Bounded, take_bounded, drop_bounded}
use Rattle.indexed.proofs.Below.{first_below_before}
use Rattle.indexed.proofs.Test.{both_true, both_false}
use Rattle.record6250.proofs.Tape.{words_small}

pub lengths_told : (n m : ℕ) → lengths_suit n m ≡ true → (0 < m) × (m ≤ 586) × (n ≡ numbers_per_group * m)
unfolding lengths_suit
lengths_told n m e =
    let both = both_true (ltb 0 m && leb m 586) (eqb n (numbers_per_group * m)) e in
    let within = both_true (ltb 0 m) (leb m 586) both.0 in
    (ltb-true 0 m within.0, leb-true m 586 within.1, eqb-true n (numbers_per_group * m) both.1)

module _ (backward : Bool) (words maps : List ℕ) (passes : Passes backward words maps) where
  pub words_long : length words ≡ numbers_per_group * length maps
  words_long = (lengths_told (length words) (length maps) passes.lengths).2

  none_stray_at : (g : ℕ) → g < length maps → stray_at backward words maps g ≡ false
  unfolding first_stray
  none_stray_at g h = first_below_before (length maps) (stray_at backward words maps) g (omega (arith, passes.no_stray))

  pub map_below : (g : ℕ) → g < length maps → read_map backward words maps g < 512
  unfolding stray_at
  map_below g h = omega (arith, ltb-false 511 (read_map backward words maps g) (both_false (stray_numbers (read_numbers backward words maps g)) _ (none_stray_at g h)).1)

  pub groups_within : (0 < length maps) × (length maps ≤ 586)
  groups_within =
      let told = lengths_told (length words) (length maps) passes.lengths in (told.0, told.1)

  pub none_stray_lent : (g : ℕ) → g < length maps → stray_numbers (read_numbers backward words maps g) ≡ false
  unfolding stray_at
  none_stray_lent g h = (both_false (stray_numbers (read_numbers backward words maps g)) _ (none_stray_at g h)).0

  pub words_below : (g : ℕ) → g < length maps → (k : ℕ) → k < 9 → get_or (read_group backward words maps g) k 0 < 1024
  unfolding read_group group_read read_numbers
  words_below g h = words_small backward _ (none_stray_lent g h)

-- ---- the groups of a body

pub length_group_bytes : (l : List ℕ) (n : ℕ) → length l ≡ 7 * n → (g : ℕ) → g < n → length (group_bytes g l) ≡ 7
unfolding group_bytes
length_group_bytes l n long g h = length-take-le 7 (drop (7 * g) l) (omega (arith, length-drop (7 * g) l))

pub group_bytes_bounded : (b : ℕ) (l : List ℕ) → Bounded b l → (g : ℕ) → Bounded b (group_bytes g l)
unfolding group_bytes
group_bytes_bounded b l h g = take_bounded b 7 (drop (7 * g) l) (drop_bounded b (7 * g) l h)

pub unpadded_bounded : (b : ℕ) (l : List ℕ) → Bounded b l → Bounded b (unpadded l)
unfolding unpadded
unpadded_bounded b l h = take_bounded b (length l - 1 - last_byte l) l h
