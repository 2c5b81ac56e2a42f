-- From a test that was computed to the fact at each number, and back.
-- Assumes nothing.
use mathlib.Core.Path.{◌≡◌, refl, ap₂, subst, sym}
use mathlib.Core.Bool.{Bool, true, false, ◌&&◌, ◌||◌, cond, true≢false, false≢true}
use Prim.Native.Nat.{ℕ, zero, suc, ◌<◌}
use native.Mathlib.Nat.{le_refl, not-suc-le-zero}
use native.Mathlib.Decide.{dec_lt}
use native.Mathlib.Omega.{arith}
use lib.Dec.{T, eqb, eqb→eq}
use Rattle.indexed.specs.Test.{all_below}

pub both_left : (a b : Bool) → T (a && b) → T a
both_left true b t = tt
both_left false b t = t

pub both_right : (a b : Bool) → T (a && b) → T b
both_right true b t = t
both_right false b t = absurd t

-- two tests that passed
pub both_true : (a b : Bool) → (a && b) ≡ true → (a ≡ true) × (b ≡ true)
both_true true b e = (refl, e)
both_true false b e = absurd (false≢true e)

-- and two of which neither did
pub both_false : (a b : Bool) → (a || b) ≡ false → (a ≡ false) × (b ≡ false)
both_false true b e = absurd (true≢false e)
both_false false b e = (refl, e)

pub tested : (n : ℕ) (p : ℕ → Bool) → T (all_below n p) → (k : ℕ) → k < n → T (p k)
tested zero p t k h = absurd (not-suc-le-zero h)
tested (suc n) p t k h = go (tested n p (both_right (p n) (all_below n p) t) k) (dec_lt k n)
  where
    go : (k < n → T (p k)) → Dec (k < n) → T (p k)
    go ih (yes below) = ih below
    go ih (no above) = subst (λ (m : ℕ). T (p m)) (omega arith) (both_left (p n) (all_below n p) t)

pub all_true : (n : ℕ) (p : ℕ → Bool) → ((k : ℕ) → k < n → p k ≡ true) → all_below n p ≡ true
all_true zero p h = refl
all_true (suc n) p h = ap₂ ◌&&◌ (h n (le_refl (suc n))) (all_true n p (λ k b. h k (omega arith)))

-- a test that fails at one number below a bound fails below the bound
pub all_false : (n : ℕ) (p : ℕ → Bool) (k : ℕ) → k < n → p k ≡ false → all_below n p ≡ false
all_false n p k h e = by (all_below n p) refl
  where
    by : (b : Bool) → all_below n p ≡ b → all_below n p ≡ false
    by true t = absurd (subst T e (tested n p (subst T (sym t) tt) k h))
    by false t = t

-- a test told as a digit, 0 if it holds
pub flag_lt : (b : Bool) → cond b 0 1 < 2
flag_lt true = omega arith
flag_lt false = omega arith

-- two functions whose values are computed to be equal, of one number, of two and of three
pub equal : (n : ℕ) (f g : ℕ → ℕ) → T (all_below n (λ k. eqb (f k) (g k))) → (k : ℕ) → k < n → f k ≡ g k
equal n f g t k h = eqb→eq (f k) (g k) (tested n (λ k. eqb (f k) (g k)) t k h)

pub equal₂ : (m n : ℕ) (f g : ℕ → ℕ → ℕ) → T (all_below m (λ i. all_below n (λ k. eqb (f i k) (g i k))))
    → (i k : ℕ) → i < m → k < n → f i k ≡ g i k
equal₂ m n f g t i k hi hk = equal n (f i) (g i) (tested m (λ i. all_below n (λ k. eqb (f i k) (g i k))) t i hi) k hk

pub equal₃ : (l m n : ℕ) (f g : ℕ → ℕ → ℕ → ℕ) → T (all_below l (λ h. all_below m (λ i. all_below n (λ k. eqb (f h i k) (g h i k)))))
    → (h i k : ℕ) → h < l → i < m → k < n → f h i k ≡ g h i k
equal₃ l m n f g t h i k hh hi hk =
    equal₂ m n (f h) (g h) (tested l (λ h. all_below m (λ i. all_below n (λ k. eqb (f h i k) (g h i k)))) t h hh) i k hi hk
