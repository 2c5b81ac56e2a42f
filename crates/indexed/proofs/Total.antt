-- Sums, and how many places differ, as a sum: term by term, in two parts and in parts of one length.
-- Assumes nothing.
use mathlib.Core.Path.{◌≡◌, refl, sym, ap, ap₂, ◌∙◌}
use mathlib.Core.Bool.{Bool, cond}
use Prim.Native.Nat.{ℕ, zero, suc, ◌+◌, ◌*◌, ◌<◌, ◌≤◌}
use native.Mathlib.Nat.{mul-zero, mul-suc, add-zero, add-suc, add_assoc, le_refl, not-suc-le-zero}
use native.Mathlib.Decide.{ℕ_discrete, dec_lt}
use native.Mathlib.Omega.{arith}
use lib.Dec.{eqb}
use Rattle.indexed.specs.List.{total}
use Rattle.indexed.specs.Differ.{differences}

-- the same terms, the same sum
pub total_same : (n : ℕ) (f g : ℕ → ℕ) → ((k : ℕ) → k < n → f k ≡ g k) → total n f ≡ total n g
unfolding total
total_same zero f g e = refl
total_same (suc n) f g e = ap₂ ◌+◌ (total_same n f g (λ k h. e k (omega arith))) (e n (le_refl (suc n)))

-- the first term apart
pub total_first : (n : ℕ) (f : ℕ → ℕ) → total (suc n) f ≡ f 0 + total n (λ k. f (suc k))
unfolding total
total_first zero f = omega arith
total_first (suc n) f = omega (arith, total_first n f)

-- ---- the places that differ

pub differences_total : (n : ℕ) (u v : ℕ → ℕ) → differences n u v ≡ total n (λ k. cond (eqb (u k) (v k)) 0 1)
unfolding differences total
differences_total zero u v = refl
differences_total (suc n) u v = ap (λ (x : ℕ). x + cond (eqb (u n) (v n)) 0 1) (differences_total n u v)

pub differences_same : (n : ℕ) (u v s t : ℕ → ℕ) → ((k : ℕ) → k < n → eqb (u k) (v k) ≡ eqb (s k) (t k))
    → differences n u v ≡ differences n s t
unfolding differences
differences_same zero u v s t e = refl
differences_same (suc n) u v s t e =
    ap₂ (λ (x : ℕ) (b : Bool). x + cond b 0 1) (differences_same n u v s t (λ k h. e k (omega arith))) (e n (le_refl (suc n)))

pub differences_split : (m n : ℕ) (u v : ℕ → ℕ)
    → differences (m + n) u v ≡ differences m u v + differences n (λ k. u (m + k)) (λ k. v (m + k))
unfolding differences
differences_split m zero u v = ap (λ (k : ℕ). differences k u v) (add-zero m) ∙ sym (add-zero (differences m u v))
differences_split m (suc n) u v =
    ap (λ (k : ℕ). differences k u v) (add-suc m n)
    ∙ ap (λ (x : ℕ). x + cond (eqb (u (m + n)) (v (m + n))) 0 1) (differences_split m n u v)
    ∙ add_assoc (differences m u v) _ _

pub differences_blocks : (size n : ℕ) (u v : ℕ → ℕ)
    → differences (size * n) u v ≡ total n (λ g. differences size (λ k. u (size * g + k)) (λ k. v (size * g + k)))
unfolding total differences
differences_blocks size zero u v = ap (λ (k : ℕ). differences k u v) (mul-zero size)
differences_blocks size (suc n) u v =
    ap (λ (k : ℕ). differences k u v) (mul-suc size n)
    ∙ differences_split (size * n) size u v
    ∙ ap (λ (x : ℕ). x + differences size (λ k. u (size * n + k)) (λ k. v (size * n + k))) (differences_blocks size n u v)

-- a sum is 0 exactly if each of its terms is
pub total_none : (n : ℕ) (f : ℕ → ℕ) → ((k : ℕ) → k < n → f k ≡ 0) → total n f ≡ 0
unfolding total
total_none zero f h = refl
total_none (suc n) f h = omega (arith, total_none n f (λ k q. h k (omega arith)), h n (omega arith))

pub none_of_total : (n : ℕ) (f : ℕ → ℕ) → total n f ≡ 0 → (k : ℕ) → k < n → f k ≡ 0
unfolding total
none_of_total zero f e k h = absurd (omega arith)
none_of_total (suc n) f e k h = by (dec_lt k n) (none_of_total n f (omega arith) k)
  where
    by : Dec (k < n) → (k < n → f k ≡ 0) → f k ≡ 0
    by (yes b) ih = ih b
    by (no b) ih = let same : k ≡ n = omega arith in rw same (omega arith)

-- of terms of which one only may be above 0
pub total_one : (n : ℕ) (f : ℕ → ℕ) (g : ℕ) → g < n → ((k : ℕ) → k < n → (k ≡ g → ⊥) → f k ≡ 0) → total n f ≡ f g
unfolding total
total_one zero f g h others = absurd (not-suc-le-zero h)
total_one (suc n) f g h others = by (ℕ_discrete n g) (λ b. total_one n f g b (λ k q. others k (omega arith)))
  where
    by : Dec (n ≡ g) → (g < n → total n f ≡ f g) → total n f + f n ≡ f g
    by (yes last) before = rw (← last) (omega (arith, total_none n f (λ k q. others k (omega arith) (λ e. omega arith))))
    by (no apart) before = omega (arith, before (omega arith), others n (omega arith) apart)

-- ---- one term among them, parts, sums of zeros and ones, and a sum doubled

pub total_within : (n : ℕ) (f : ℕ → ℕ) (g : ℕ) → g < n → total g f + f g ≤ total n f
unfolding total
total_within zero f g h = absurd (not-suc-le-zero h)
total_within (suc n) f g h = by (dec_lt g n) (total_within n f g)
  where
    by : Dec (g < n) → (g < n → total g f + f g ≤ total n f) → total g f + f g ≤ total n f + f n
    by (yes b) before = omega (arith, before b)
    by (no b) before = let last : g ≡ n = omega arith in rw last (omega arith)

-- in two parts
pub total_split : (m n : ℕ) (f : ℕ → ℕ) → total (m + n) f ≡ total m f + total n (λ k. f (m + k))
unfolding total
total_split m zero f = ap (λ (k : ℕ). total k f) (add-zero m) ∙ sym (add-zero (total m f))
total_split m (suc n) f =
    ap (λ (k : ℕ). total k f) (add-suc m n)
    ∙ ap (λ (x : ℕ). x + f (m + n)) (total_split m n f)
    ∙ add_assoc (total m f) _ _

-- of terms that are bounded, and of zeros and ones
pub total_most : (most n : ℕ) (f : ℕ → ℕ) → ((k : ℕ) → k < n → f k ≤ most) → total n f ≤ most * n
unfolding total
total_most most zero f h = omega arith
total_most most (suc n) f h = omega (arith, mul-suc most n, total_most most n f (λ k b. h k (omega arith)), h n (omega arith))

pub total_digits : (n : ℕ) (f : ℕ → ℕ) → ((k : ℕ) → f k < 2) → total n f ≤ n
total_digits n f h = omega (arith, total_most 1 n f (λ k b. omega (arith, h k)))

pub total_twice : (n : ℕ) (f g : ℕ → ℕ) → ((k : ℕ) → f k ≡ 2 * g k) → total n f ≡ 2 * total n g
unfolding total
total_twice zero f g e = refl
total_twice (suc n) f g e = let before = total_twice n f g e in omega (arith, before, e n)

-- a sum of zeros and ones above k has a one behind k others
pub one_of_total : (n : ℕ) (f : ℕ → ℕ) → ((g : ℕ) → f g < 2) → (k : ℕ) → k < total n f → (g : ℕ) × (g < n) × (f g ≡ 1) × (total g f ≡ k)
unfolding total
one_of_total zero f bits k h = absurd (not-suc-le-zero h)
one_of_total (suc n) f bits k h = by (dec_lt k (total n f)) (one_of_total n f bits k)
  where
    by : Dec (k < total n f) → (k < total n f → (g : ℕ) × (g < n) × (f g ≡ 1) × (total g f ≡ k))
        → (g : ℕ) × (g < suc n) × (f g ≡ 1) × (total g f ≡ k)
    by (yes b) before = let found = before b in (found.0, omega (arith, found.1), found.2, found.3)
    by (no b) before = (n, omega arith, omega (arith, bits n), omega (arith, bits n))

-- ---- sums of sums, and of ones

total_plus : (n : ℕ) (f g : ℕ → ℕ) → total n (λ k. f k + g k) ≡ total n f + total n g
unfolding total
total_plus zero f g = refl
total_plus (suc n) f g = omega (arith, total_plus n f g)

pub total_swap : (m n : ℕ) (f : ℕ → ℕ → ℕ) → total m (λ i. total n (f i)) ≡ total n (λ k. total m (λ i. f i k))
unfolding total
total_swap zero n f = sym (total_none n (λ k. 0) (λ k h. refl))
total_swap (suc m) n f = ap (λ (t : ℕ). t + total n (f m)) (total_swap m n f) ∙ sym (total_plus n (λ k. total m (λ i. f i k)) (f m))

pub total_ones : (n : ℕ) → total n (λ k. 1) ≡ n
unfolding total
total_ones zero = refl
total_ones (suc n) = omega (arith, total_ones n)
