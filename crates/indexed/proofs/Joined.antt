-- Lists of any lengths put end to end: where each begins, and what stands there.
-- Assumes nothing.
use mathlib.Core.Path.{◌≡◌, refl, ap, ◌∙◌}
use mathlib.Core.List.{List, ◌++◌}
use Prim.Native.Nat.{ℕ, zero, suc, ◌+◌, ◌<◌, ◌≤◌}
use native.Mathlib.Nat.{not-suc-le-zero}
use native.Mathlib.Decide.{dec_lt}
use native.Mathlib.Omega.{arith}
use lib.ListN.{length, get_or, length-append, get_or-append}
use lib.Seq.{get_or-append-add}
use Rattle.indexed.specs.List.{blocks, total}

-- how long they are
pub length_joined : (n : ℕ) (f : ℕ → List ℕ) → length (blocks n f) ≡ total n (λ g. length (f g))
unfolding blocks total
length_joined zero f = refl
length_joined (suc n) f = length-append (blocks n f) (f n) ∙ ap (λ (x : ℕ). x + length (f n)) (length_joined n f)

-- list g stands among the first n, behind those before it
pub joined_within : (n : ℕ) (f : ℕ → List ℕ) (g : ℕ) → g < n → length (blocks g f) + length (f g) ≤ length (blocks n f)
unfolding blocks
joined_within zero f g h = absurd (not-suc-le-zero h)
joined_within (suc n) f g h = by (dec_lt g n) (joined_within n f g)
  where
    by : Dec (g < n) → (g < n → length (blocks g f) + length (f g) ≤ length (blocks n f))
        → length (blocks g f) + length (f g) ≤ length (blocks n f ++ f n)
    by (yes b) before = omega (arith, before b, length-append (blocks n f) (f n))
    by (no b) before =
        let last : g ≡ n = omega arith in
        rw last (omega (arith, length-append (blocks n f) (f n)))

pub get_or_joined : (n : ℕ) (f : ℕ → List ℕ) (g k : ℕ) → g < n → k < length (f g) → get_or (blocks n f) (length (blocks g f) + k) 0 ≡ get_or (f g) k 0
unfolding blocks
get_or_joined zero f g k h b = absurd (not-suc-le-zero h)
get_or_joined (suc n) f g k h b = by (dec_lt g n) (get_or_joined n f g k)
  where
    by : Dec (g < n) → (g < n → k < length (f g) → get_or (blocks n f) (length (blocks g f) + k) 0 ≡ get_or (f g) k 0)
        → get_or (blocks n f ++ f n) (length (blocks g f) + k) 0 ≡ get_or (f g) k 0
    by (yes c) before =
        get_or-append (blocks n f) (f n) 0 (length (blocks g f) + k) (omega (arith, joined_within n f g c)) ∙ before c b
    by (no c) before =
        let last : g ≡ n = omega arith in
        rw last (get_or-append-add (blocks n f) (f n) k 0)
