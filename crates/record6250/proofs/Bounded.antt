-- Lists whose elements are all below a bound: put end to end, and cut.
-- Assumes nothing.
use mathlib.Core.List.{List, [], ◌∷◌, ◌++◌}
use Prim.Native.Nat.{ℕ, zero, suc, ◌<◌}
use native.Mathlib.Nat.{le_refl}
use native.Mathlib.Omega.{arith}
use native.Mathlib.Decide.{dec_lt}
use lib.ListN.{get_or, take, drop, length-take, get_or-eq_default}
use lib.Seq.{get_or-take, get_or-drop}
use Rattle.indexed.specs.List.{blocks}

abbrev pub Bounded : ℕ → List ℕ → Type 0
Bounded b l = (k : ℕ) → get_or l k 0 < b

append_bounded : (b : ℕ) (xs ys : List ℕ) → Bounded b xs → Bounded b ys → Bounded b (xs ++ ys)
append_bounded b [] ys hx hy k = hy k
append_bounded b (x ∷ xs) ys hx hy zero = hx 0
append_bounded b (x ∷ xs) ys hx hy (suc k) = append_bounded b xs ys (λ k. hx (suc k)) hy k

pub blocks_bounded : (b n : ℕ) (f : ℕ → List ℕ) → 0 < b → ((k : ℕ) → k < n → Bounded b (f k)) → Bounded b (blocks n f)
unfolding blocks
blocks_bounded b zero f positive h = λ k. positive
blocks_bounded b (suc n) f positive h =
    append_bounded b (blocks n f) (f n) (blocks_bounded b n f positive (λ k q. h k (omega arith))) (h n (le_refl (suc n)))

pub take_bounded : (b n : ℕ) (l : List ℕ) → Bounded b l → Bounded b (take n l)
take_bounded b n l h k = by (dec_lt k n)
  where
    by : Dec (k < n) → get_or (take n l) k 0 < b
    by (yes q) = rw (get_or-take n l k 0 q) (h k)
    by (no q) = rw (get_or-eq_default (take n l) 0 {n = k} (omega (arith, length-take n l))) (omega (arith, h 0))

pub drop_bounded : (b n : ℕ) (l : List ℕ) → Bounded b l → Bounded b (drop n l)
drop_bounded b n l h k = rw (get_or-drop n l k 0) (h _)
