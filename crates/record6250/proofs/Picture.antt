-- The forward picture: what stands in blocks is read block by block, and a reading that is turned has the same groups and maps.
-- Assumes nothing.
use mathlib.Core.Path.{◌≡◌, refl, sym, ap, ap₂, ◌∙◌}
use mathlib.Core.Bool.{Bool, true, false, not}
use mathlib.Core.List.{List, ◌++◌, append-nil}
use Prim.Native.Nat.{ℕ, ◌*◌, ◌/◌, ◌<◌}
use native.Mathlib.Omega.{arith}
use lib.ListN.{length, get_or, drop, length-append, length-drop, drop_of_length-le}
use lib.Seq.{ext_get_or, length-take-le, get_or-take, get_or-drop}
use Rattle.indexed.specs.List.{blocks}
use Rattle.slices.specs.Turned.{turned_place}
use Rattle.slices.proofs.Turned.{turned_lt}
use Rattle.indexed.proofs.Blocks.{length_blocks, blocks_same, get_or_blocks, join_cuts}
use Rattle.indexed.proofs.Tabulate.{length_tabulate, get_d_tabulate}
use Rattle.rectangular.specs.Constants.{tracks, numbers_per_group}
use Rattle.record6250.specs.Picture.{group_lent, group_read, map_read, picture_maps, turned_numbers}
use Rattle.record6250.specs.Tape.{numbers_at, words_from, turned_group}
use Rattle.record6250.proofs.Tape.{length_numbers_at, get_or_numbers_at, length_words_from, length_turned_group, words_turned}

pub length_lent : (backward : Bool) (n : ℕ) (numbers : List ℕ) (g : ℕ) → length (group_lent backward n numbers g) ≡ numbers_per_group
unfolding group_lent
length_lent backward n numbers g = length_numbers_at numbers _

pub length_read : (backward : Bool) (n : ℕ) (numbers : List ℕ) (g : ℕ) → length (group_read backward n numbers g) ≡ tracks
unfolding group_read
length_read backward n numbers g = length_words_from backward _

-- the numbers of a group among groups that stand end to end
pub lent_of_blocks : (backward : Bool) (n m : ℕ) (f : ℕ → List ℕ) → ((g : ℕ) → g < m → length (f g) ≡ numbers_per_group) → (g : ℕ) → turned_place backward n g < m
    → group_lent backward n (blocks m f) g ≡ f (turned_place backward n g)
unfolding group_lent
lent_of_blocks backward n m f nine g h =
    ext_get_or 0 _ _ (length_numbers_at (blocks m f) _ ∙ sym (nine (turned_place backward n g) h))
    (λ k q. let b : k < numbers_per_group = omega (arith, length_numbers_at (blocks m f) (numbers_per_group * turned_place backward n g)) in
    get_or_numbers_at (blocks m f) _ k b ∙ get_or_blocks numbers_per_group m f nine (turned_place backward n g) k 0 h b)

-- a list is its groups, end to end
pub lent_joined : (numbers : List ℕ) (n : ℕ) → length numbers ≡ numbers_per_group * n → blocks n (group_lent false n numbers) ≡ numbers
unfolding group_lent turned_place
lent_joined numbers n long =
    blocks_same n _ _
    (λ g h. ext_get_or 0 _ _ (length_numbers_at numbers (numbers_per_group * g) ∙ sym (length-take-le numbers_per_group (drop (numbers_per_group * g) numbers) (omega (arith, length-drop (numbers_per_group * g) numbers))))
    (λ k q. let b : k < numbers_per_group = omega (arith, length_numbers_at numbers (numbers_per_group * g)) in
    get_or_numbers_at numbers (numbers_per_group * g) k b ∙ sym (get_or-take numbers_per_group (drop (numbers_per_group * g) numbers) k 0 b ∙ get_or-drop (numbers_per_group * g) numbers k 0)))
    ∙ join_cuts numbers_per_group n numbers long

-- ---- the pointer maps

pub length_maps : (backward : Bool) (maps : List ℕ) → length (picture_maps backward maps) ≡ length maps
unfolding picture_maps
length_maps backward maps = length_tabulate (length maps) _

-- a place that is turned the other way, turned last first, is the place itself
turned_back : (backward : Bool) (n k : ℕ) → k < n → turned_place true n (turned_place (not backward) n k) ≡ turned_place backward n k
unfolding turned_place
turned_back true n k h = refl
turned_back false n k h = omega arith

pub map_turned : (backward : Bool) (maps : List ℕ) (g : ℕ) → g < length maps
    → map_read (not backward) (length (picture_maps true maps)) (picture_maps true maps) g ≡ map_read backward (length maps) maps g
unfolding picture_maps map_read
map_turned backward maps g h =
    ap (λ (n : ℕ). get_or (picture_maps true maps) (turned_place (not backward) n g) 0) (length_maps true maps)
    ∙ get_d_tabulate (length maps) _ (turned_place (not backward) (length maps) g) 0 (turned_lt (not backward) (length maps) g h)
    ∙ ap (λ (k : ℕ). get_or maps k 0) (turned_back backward (length maps) g h)

-- ---- the numbers

pub length_turned : (numbers : List ℕ) → length (turned_numbers numbers) ≡ length numbers
unfolding turned_numbers
length_turned numbers =
    let n = length numbers / numbers_per_group in
    length-append (blocks n (λ g. turned_group (group_lent true n numbers g))) (drop (numbers_per_group * n) numbers)
    ∙ omega (
      arith,
      length_blocks numbers_per_group n (λ g. turned_group (group_lent true n numbers g)) (λ g h. length_turned_group (group_lent true n numbers g)),
      length-drop (numbers_per_group * n) numbers,
    )

module _ (numbers : List ℕ) (n : ℕ) (long : length numbers ≡ numbers_per_group * n) where
  turned_whole : turned_numbers numbers ≡ blocks n (λ g. turned_group (group_lent true n numbers g))
  unfolding turned_numbers
  turned_whole =
      let groups : length numbers / numbers_per_group ≡ n = omega arith in
      ap₂ ◌++◌ (ap (λ (m : ℕ). blocks m (λ g. turned_group (group_lent true m numbers g))) groups)
      (drop_of_length-le numbers {i = numbers_per_group * (length numbers / numbers_per_group)} (omega arith))
      ∙ append-nil (blocks n (λ g. turned_group (group_lent true n numbers g)))

  -- a group of what is turned is the group of what was, turned
  pub lent_turned : (backward : Bool) (g : ℕ) → g < n → group_lent (not backward) n (turned_numbers numbers) g ≡ turned_group (group_lent backward n numbers g)
  unfolding group_lent
  lent_turned backward g h =
      ap (λ (l : List ℕ). group_lent (not backward) n l g) turned_whole
      ∙ lent_of_blocks (not backward) n n (λ g. turned_group (group_lent true n numbers g)) (λ g h. length_turned_group (group_lent true n numbers g)) g
      (turned_lt (not backward) n g h)
      ∙ ap (λ (k : ℕ). turned_group (numbers_at numbers (numbers_per_group * k))) (turned_back backward n g h)

  pub read_turned : (backward : Bool) (g : ℕ) → g < n → group_read (not backward) n (turned_numbers numbers) g ≡ group_read backward n numbers g
  unfolding group_read
  read_turned backward g h = ap (words_from (not backward)) (lent_turned backward g h) ∙ words_turned (group_lent backward n numbers g) backward
