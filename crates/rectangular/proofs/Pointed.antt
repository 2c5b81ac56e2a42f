-- The tracks that a map points at are those whose bit is 1; the map 0 points at none.
-- Assumes nothing.
use mathlib.Core.Path.{◌≡◌, refl, sym, ap, subst}
use mathlib.Core.Logic.{◌⊎◌, inl, inr}
use mathlib.Core.List.{List, [], ◌∷◌}
use Prim.Native.Nat.{ℕ, ◌<◌}
use native.Mathlib.Omega.{arith}
use borrow.Author.Tests.{eqb-true, eq-eqb}
use lib.Dec.{eqb}
use lib.ListN.{length, get_or}
use Rattle.indexed.proofs.Keep.{Kept, kept_below}
use Rattle.register.specs.Bit.{bit}
use Rattle.register.proofs.Bit.{bit_lt}
use Rattle.register.proofs.Expand.{bit_of_zero}
use Rattle.register.proofs.Xor.{digit}
use Rattle.rectangular.specs.Correction.{pointed_tracks}

module _ (n pointers : ℕ) (l : List ℕ) (is : pointed_tracks n pointers ≡ l) where
  kept : Kept (λ k. eqb (bit k pointers) 1) 0 n l
  unfolding pointed_tracks
  kept = subst (Kept (λ k. eqb (bit k pointers) 1) 0 n) is (kept_below (λ k. eqb (bit k pointers) 1) n)

  pub pointed_lt : (t : ℕ) → t < length l → get_or l t 0 < n
  pointed_lt = kept.under

  pub pointed_ascends : (i j : ℕ) → i < j → j < length l → get_or l i 0 < get_or l j 0
  pointed_ascends = kept.ascending

  pub pointed_one : (t : ℕ) → t < length l → bit (get_or l t 0) pointers ≡ 1
  pointed_one t h = eqb-true (bit (get_or l t 0) pointers) 1 (kept.passes t h)

  pub pointed_found : (k : ℕ) → k < n → bit k pointers ≡ 1 → (t : ℕ) × (t < length l) × (get_or l t 0 ≡ k)
  pointed_found k h e = kept.complete k (omega arith) h (eq-eqb (bit k pointers) 1 e)

  -- a track that is not pointed is none of them, and one that is none of them is not pointed
  pub pointed_bit : (t : ℕ) → t < length l → (k : ℕ) → bit k pointers ≡ 0 → k ≡ get_or l t 0 → ⊥
  pointed_bit t h k z e = omega (arith, ap (λ (j : ℕ). bit j pointers) e, pointed_one t h)

  pub outside : (k : ℕ) → k < n → ((t : ℕ) → t < length l → k ≡ get_or l t 0 → ⊥) → bit k pointers ≡ 0
  outside k h none = by (digit (bit k pointers) (bit_lt k pointers))
    where
      by : (bit k pointers ≡ 0) ⊎ (bit k pointers ≡ 1) → bit k pointers ≡ 0
      by (inl e) = e
      by (inr e) = let c = pointed_found k h e in absurd (none c.0 c.1 (sym c.2))

pub none_pointed : (n : ℕ) → pointed_tracks n 0 ≡ []
none_pointed n = by (pointed_tracks n 0) refl
  where
    by : (l : List ℕ) → pointed_tracks n 0 ≡ l → l ≡ []
    by [] is = refl
    by (i ∷ more) is = absurd (omega (arith, pointed_one n 0 (i ∷ more) is 0 (omega arith), bit_of_zero i))
