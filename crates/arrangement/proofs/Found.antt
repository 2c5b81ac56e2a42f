-- The inverse of a way as a loop finds it, which stores each index at its place.
-- Assumes nothing.
use mathlib.Core.Path.{◌≡◌, sym, ap, ◌∙◌}
use mathlib.Core.List.{List}
use Prim.Native.Nat.{ℕ, ◌+◌, ◌<◌}
use native.Mathlib.Nat.{not-suc-le-zero}
use native.Mathlib.Decide.{ℕ_discrete}
use native.Mathlib.Omega.{arith}
use lib.ListN.{length, get_or, set, length-set}
use lib.Seq.{get_or-set_same, get_or-set_other}
use Rattle.track_order.specs.Order.{index_in, inverse, Permutation}
use Rattle.track_order.proofs.Order.{same_nine, at_index, length_inverse, get_or_inverse}

-- k indices are stored
pub record Found (places : List ℕ) (k : ℕ) (found : List ℕ) : Type 0 where
  pub nine_found : length found ≡ 9
  pub stands : (a : ℕ) → index_in places a < k → get_or found a 0 ≡ index_in places a

pub found_none : (places found : List ℕ) → length found ≡ 9 → Found places 0 found
found_none places found nine = record { nine_found = nine; stands = λ a less. absurd (not-suc-le-zero less) }

module _ (places : List ℕ) (p : Permutation places) where
  pub found_more : (k : ℕ) (found : List ℕ) → k < 9 → Found places k found → Found places (k + 1) (set found (get_or places k 0) k)
  found_more k found h f = record {
    nine_found = length-set found (get_or places k 0) k ∙ f.nine_found;
    stands = λ a less. by a less (ℕ_discrete a (get_or places k 0));
  }
    where
      by : (a : ℕ) → index_in places a < k + 1 → Dec (a ≡ get_or places k 0) → get_or (set found (get_or places k 0) k) a 0 ≡ index_in places a
      by a less (yes e) =
          ap (λ (i : ℕ). get_or (set found (get_or places k 0) k) i 0) e
          ∙ get_or-set_same found (get_or places k 0) k 0 (rw f.nine_found (p.below k h))
          ∙ sym (ap (index_in places) e ∙ p.once k h)
      by a less (no ne) =
          let before : index_in places a ≡ k → ⊥ = λ e. ne (sym (at_index places p a (rw e h)) ∙ ap (λ (i : ℕ). get_or places i 0) e) in
          get_or-set_other found (get_or places k 0) a k 0 ne ∙ f.stands a (omega arith)

  pub found_all : (found : List ℕ) → Found places 9 found → found ≡ inverse places
  found_all found f =
      same_nine found (inverse places) f.nine_found (length_inverse places p)
      (λ a h. f.stands a (p.onto a h) ∙ sym (get_or_inverse places p a h))
