-- A one-to-one function of the numbers below n into them takes every value below n, and one that takes every value is one-to-one: the
-- values are counted, and none can be missed without another that is taken twice.
-- Assumes nothing.
use mathlib.Core.Path.{◌≡◌, refl, sym, ap, ◌∙◌}
use mathlib.Core.Bool.{Bool, true, false, cond}
use Prim.Native.Nat.{ℕ, zero, suc, ◌<◌, ◌≤◌}
use native.Mathlib.Nat.{not-suc-le-zero}
use native.Mathlib.Decide.{dec_lt}
use native.Mathlib.Omega.{arith}
use borrow.Author.Tests.{eq-eqb, ne_eqb, eqb-true}
use lib.Dec.{eqb}
use Rattle.indexed.specs.List.{total, occurrences}
use Rattle.indexed.proofs.Total.{total_same, total_one, total_ones, total_swap, total_within, total_digits, one_of_total}

-- ---- how often a value occurs

-- 1 where two numbers are the same
abbrev same : ℕ → ℕ → ℕ
same x y = cond (eqb x y) 1 0

same_lt : (b : Bool) → cond b 1 0 < 2
same_lt true = omega arith
same_lt false = omega arith

same_one : (x y : ℕ) → same x y ≡ 1 → x ≡ y
same_one x y e = by (eqb x y) refl e
  where
    by : (b : Bool) → eqb x y ≡ b → ◌≡◌ {A = ℕ} (cond b 1 0) 1 → x ≡ y
    by true h e = eqb-true x y h
    by false h e = absurd (omega arith)

is_same : (x y : ℕ) → x ≡ y → same x y ≡ 1
is_same x y e = ap (λ (b : Bool). cond b 1 0) (eq-eqb x y e)

-- among all values below n a number below n is one
once : (n x : ℕ) → x < n → total n (same x) ≡ 1
once n x h =
    total_one n (same x) x h (λ k b apart. ap (λ (t : Bool). cond t 1 0) (ne_eqb x k (λ e. apart (sym e)))) ∙ is_same x x refl

module _ (n : ℕ) (f : ℕ → ℕ) (a : ℕ) where
  -- at two places it occurs twice, and what occurs twice has two places
  pub occurs_twice : (j k : ℕ) → j < k → k < n → f j ≡ a → f k ≡ a → 2 ≤ occurrences n f a
  unfolding occurrences
  occurs_twice j k less h ej ek =
      omega (arith, total_within n (λ k. same (f k) a) k h, total_within k (λ k. same (f k) a) j less, is_same (f j) a ej, is_same (f k) a ek)

  occurs : (k : ℕ) → k < n → f k ≡ a → 1 ≤ occurrences n f a
  unfolding occurrences
  occurs k h e = omega (arith, total_within n (λ k. same (f k) a) k h, is_same (f k) a e)

  pub two_occur : 2 ≤ occurrences n f a → (j : ℕ) × (k : ℕ) × (j < n) × (k < n) × (j ≡ k → ⊥) × (f j ≡ a) × (f k ≡ a)
  unfolding occurrences
  two_occur h =
      let count : ℕ → ℕ = λ k. same (f k) a in
      let one = one_of_total n count (λ k. same_lt (eqb (f k) a)) 0 (omega arith) in
      let other = one_of_total n count (λ k. same_lt (eqb (f k) a)) 1 h in (
        one.0,
        other.0,
        one.1,
        other.1,
        λ e. omega (arith, one.3, other.3, ap (λ (k : ℕ). total k count) e),
        same_one (f one.0) a one.2,
        same_one (f other.0) a other.2,
      )

  one_occurs : 1 ≤ occurrences n f a → (k : ℕ) × (k < n) × (f k ≡ a)
  unfolding occurrences
  one_occurs h =
      let one = one_of_total n (λ k. same (f k) a) (λ k. same_lt (eqb (f k) a)) 0 h in
      (one.0, one.1, same_one (f one.0) a one.2)

-- less than twice, if every place with it is the same
pub occurs_once : (n : ℕ) (f : ℕ → ℕ) (a : ℕ) → ((j k : ℕ) → j < n → k < n → f j ≡ a → f k ≡ a → j ≡ k) → occurrences n f a < 2
occurs_once n f a alone = by (dec_lt (occurrences n f a) 2)
  where
    by : Dec (occurrences n f a < 2) → occurrences n f a < 2
    by (yes b) = b
    by (no b) =
        let two = two_occur n f a (omega arith) in absurd (two.4 (alone two.0 two.1 two.2 two.3 two.5 two.6))

-- places with the same value are the same, if no later place has it
pub same_place : (n : ℕ) (f : ℕ → ℕ) → ((j k : ℕ) → j < k → k < n → f j ≡ f k → ⊥) → (j k : ℕ) → j < n → k < n → f j ≡ f k → j ≡ k
same_place n f never j k hj hk e = by (dec_lt j k) (dec_lt k j)
  where
    by : Dec (j < k) → Dec (k < j) → j ≡ k
    by (yes less) behind = absurd (never j k less hk e)
    by (no front) (yes less) = absurd (never k j less hj (sym e))
    by (no front) (no behind) = omega arith

-- ---- all values

-- a sum of n zeros and ones that is n has ones only
all_ones : (n : ℕ) (g : ℕ → ℕ) → ((k : ℕ) → g k < 2) → total n g ≡ n → (k : ℕ) → k < n → g k ≡ 1
unfolding total
all_ones zero g bits e k h = absurd (not-suc-le-zero h)
all_ones (suc n) g bits e k h = by (dec_lt k n) (all_ones n g bits (omega (arith, total_digits n g bits, bits n)) k)
  where
    by : Dec (k < n) → (k < n → g k ≡ 1) → g k ≡ 1
    by (yes b) before = before b
    by (no b) before = let last : k ≡ n = omega arith in rw last (omega (arith, total_digits n g bits, bits n))

-- n numbers above 0 sum to n at least, and if to n, they are ones only
no_less : (n : ℕ) (g : ℕ → ℕ) → ((k : ℕ) → k < n → 1 ≤ g k) → n ≤ total n g
unfolding total
no_less zero g some = omega arith
no_less (suc n) g some = omega (arith, no_less n g (λ k h. some k (omega arith)), some n (omega arith))

only_ones : (n : ℕ) (g : ℕ → ℕ) → ((k : ℕ) → k < n → 1 ≤ g k) → total n g ≡ n → (k : ℕ) → k < n → g k ≡ 1
unfolding total
only_ones zero g some e k h = absurd (not-suc-le-zero h)
only_ones (suc n) g some e k h =
    let before : n ≤ total n g = no_less n g (λ k h. some k (omega arith)) in
    by (dec_lt k n) (only_ones n g (λ k h. some k (omega arith)) (omega (arith, some n (omega arith))) k) before
  where
    by : Dec (k < n) → (k < n → g k ≡ 1) → n ≤ total n g → g k ≡ 1
    by (yes b) ih before = ih b
    by (no b) ih before = let last : k ≡ n = omega arith in rw last (omega (arith, some n (omega arith)))

module _ (n : ℕ) (f : ℕ → ℕ) (within : (k : ℕ) → k < n → f k < n) where
  all_occur : total n (occurrences n f) ≡ n
  unfolding occurrences
  all_occur =
      total_swap n n (λ a k. same (f k) a)
      ∙ total_same n (λ k. total n (same (f k))) (λ k. 1) (λ k h. once n (f k) (within k h))
      ∙ total_ones n

  module _ (apart : (j k : ℕ) → j < n → k < n → f j ≡ f k → j ≡ k) where
    occurs_lt : (a : ℕ) → occurrences n f a < 2
    occurs_lt a = occurs_once n f a (λ j k hj hk ej ek. apart j k hj hk (ej ∙ sym ek))

    pub every_value : (a : ℕ) → a < n → (k : ℕ) × (k < n) × (f k ≡ a)
    every_value a h = one_occurs n f a (omega (arith, all_ones n (occurrences n f) occurs_lt all_occur a h))

  -- the other way
  module _ (onto : (a : ℕ) → a < n → (k : ℕ) × (k < n) × (f k ≡ a)) where
    each_once : (a : ℕ) → a < n → occurrences n f a ≡ 1
    each_once = only_ones n (occurrences n f) (λ a h. let at = onto a h in occurs n f a at.0 at.1 at.2) all_occur

    pub one_to_one : (j k : ℕ) → j < n → k < n → f j ≡ f k → j ≡ k
    one_to_one = same_place n f (λ j k less h e. omega (arith, each_once (f k) (within k h), occurs_twice n f (f k) j k less h e refl))
