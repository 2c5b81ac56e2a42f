-- The forward picture: of a forward reading it is the reading, and a reading turned twice is as it was; and what is known of a reading
-- that passes.
-- Assumes nothing.
use mathlib.Core.Path.{◌≡◌, sym, ap, ◌∙◌}
use mathlib.Core.Bool.{Bool, false}
use mathlib.Core.List.{List}
use Prim.Native.Nat.{ℕ, ◌+◌, ◌-◌, ◌<◌, ◌≤◌}
use native.Mathlib.Decide.{dec_lt}
use native.Mathlib.Nat.{le_of_suc-le-suc}
use native.Mathlib.Omega.{arith}
use borrow.Author.Tests.{leb-true, ltb-false, le-ltb}
use lib.Dec.{leb, ltb}
use lib.ListN.{length, get_or, get_or-eq_default}
use lib.Seq.{ext_get_or}
use Rattle.slices.specs.Above.{first_above}
use Rattle.slices.specs.Turned.{turned_place}
use Rattle.indexed.proofs.First.{first_none, first_before}
use Rattle.indexed.proofs.Tabulate.{length_tabulate, get_d_tabulate}
use Rattle.slices.specs.Union.{union_of}
use Rattle.slices.proofs.Or.{below_union}
use Rattle.cyclic.specs.Constants.{most_character, least_data, most_data, checks}
use Rattle.record800.specs.Fits.{Passes}
use Rattle.record800.specs.Read.{picture, length_suits, first_stray}
use Rattle.indexed.proofs.Test.{both_true}
use Rattle.slices.proofs.Turned.{turned_lt, turned_twice}

module _ (backward : Bool) (characters : List ℕ) where
  pub length_picture : length (picture backward characters) ≡ length characters
  unfolding picture
  length_picture = length_tabulate (length characters) _

  pub get_or_picture : (k : ℕ) → k < length characters
      → get_or (picture backward characters) k 0 ≡ get_or characters (turned_place backward (length characters) k) 0
  unfolding picture
  get_or_picture k h = get_d_tabulate (length characters) _ k 0 h

  -- where all bits together are below 512, every character is
  pub none_stray : union_of characters < 512 → first_stray backward characters ≡ length characters
  unfolding first_stray first_above
  none_stray h =
      first_none (λ v. ltb most_character v) _ _ (sym length_picture)
      (λ k b. ap (ltb most_character) (get_or_picture k b) ∙ le-ltb most_character _ (le_of_suc-le-suc (below_union characters 512 h _ (turned_lt backward (length characters) k b))))

pub picture_forward : (characters : List ℕ) → picture false characters ≡ characters
unfolding turned_place
picture_forward characters =
    ext_get_or 0 _ _ (length_picture false characters) (λ k h. get_or_picture false characters k (omega (arith, length_picture false characters)))

pub picture_twice : (backward : Bool) (characters : List ℕ) → picture backward (picture backward characters) ≡ characters
picture_twice backward characters =
    let once = length_picture backward characters in
    let twice = length_picture backward (picture backward characters) in
    ext_get_or 0 _ _ (twice ∙ once)
    (λ k h. get_or_picture backward (picture backward characters) k (omega arith)
    ∙ ap (λ (n : ℕ). get_or (picture backward characters) (turned_place backward n k) 0) once
    ∙ get_or_picture backward characters (turned_place backward (length characters) k) (turned_lt backward (length characters) k (omega arith))
    ∙ ap (λ (j : ℕ). get_or characters j 0) (turned_twice backward (length characters) k (omega arith)))

-- ---- a reading that passes

module _ (backward : Bool) (characters : List ℕ) (passes : Passes backward characters) where
  pub lengths_within : (least_data + checks ≤ length characters) × (length characters ≤ most_data + checks)
  unfolding length_suits
  lengths_within =
      let b = both_true (leb (least_data + checks) (length characters)) (leb (length characters) (most_data + checks)) passes.lengths in
      (leb-true _ _ b.0, leb-true _ _ b.1)

  -- the data characters, the check character and the longitudinal one
  pub as_counted : length characters - checks + checks ≡ length characters
  as_counted = omega (arith, lengths_within.0)

  -- no character has a bit above the ninth
  pub picture_below : (k : ℕ) → get_or (picture backward characters) k 0 < 512
  unfolding first_stray first_above
  picture_below k = by (dec_lt k (length characters))
    where
      by : Dec (k < length characters) → get_or (picture backward characters) k 0 < 512
      by (yes h) =
          omega (
            arith,
            ltb-false 511 (get_or (picture backward characters) k 0)
                (first_before (λ v. ltb most_character v) (picture backward characters) k (omega (arith, passes.no_stray))),
          )
      by (no h) =
          omega (
            arith,
            get_or-eq_default (picture backward characters) 0 {n = k} (omega (arith, length_picture backward characters)),
          )
