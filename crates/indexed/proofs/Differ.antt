-- Where two lists of values differ in one place at most, or in two, the places can be named outside which they agree; and bounds
-- on the number of places.
-- Assumes nothing.
use mathlib.Core.Path.{◌≡◌, refl, sym, ap, subst, ◌∙◌}
use mathlib.Core.Logic.{◌⊎◌, inl, inr}
use mathlib.Core.Bool.{Bool, true, false, cond}
use Prim.Native.Nat.{ℕ, zero, suc, ◌+◌, ◌<◌, ◌≤◌}
use native.Mathlib.Nat.{add-zero, le_of_eq, not-suc-le-zero}
use native.Mathlib.Decide.{ℕ_discrete, dec_lt}
use native.Mathlib.Omega.{arith}
use borrow.Author.Tests.{eqb-true, eq-eqb}
use lib.Dec.{eqb}
use Rattle.indexed.specs.Differ.{differences}

-- u and v agree below n, but for i and j
abbrev pub AgreeBut : ℕ → (ℕ → ℕ) → (ℕ → ℕ) → ℕ → ℕ → Type 0
AgreeBut n u v i j = (k : ℕ) → k < n → (k ≡ i → ⊥) → (k ≡ j → ⊥) → u k ≡ v k

-- what holds below n holds below n + 1, if it holds at n
extended : (n : ℕ) (P : ℕ → Type 0) → ((k : ℕ) → k < n → P k) → P n → (k : ℕ) → k < suc n → P k
extended n P below at k h = by (dec_lt k n)
  where
    by : Dec (k < n) → P k
    by (yes b) = below k b
    by (no b) = let e : n ≡ k = omega arith in subst P e at

module _ (u v : ℕ → ℕ) where
  -- at the last index they agree, or it counts
  split : (n : ℕ)
      → ((differences (suc n) u v ≡ differences n u v) × (u n ≡ v n)) ⊎ (differences (suc n) u v ≡ differences n u v + 1)
  unfolding differences
  split n = by (eqb (u n) (v n)) refl
    where
      count : Bool → ℕ
      count t = differences n u v + cond t 0 1

      by : (t : Bool) → eqb (u n) (v n) ≡ t
          → ((count (eqb (u n) (v n)) ≡ differences n u v) × (u n ≡ v n)) ⊎ (count (eqb (u n) (v n)) ≡ differences n u v + 1)
      by true e = inl (ap count e ∙ add-zero (differences n u v), eqb-true (u n) (v n) e)
      by false e = inr (ap count e)

  none : (n : ℕ) → differences n u v ≤ 0 → (k : ℕ) → k < n → u k ≡ v k
  none zero h = λ k b. absurd (not-suc-le-zero b)
  none (suc n) h = by (split n) (none n)
    where
      by : ((differences (suc n) u v ≡ differences n u v) × (u n ≡ v n)) ⊎ (differences (suc n) u v ≡ differences n u v + 1)
          → (differences n u v ≤ 0 → (k : ℕ) → k < n → u k ≡ v k) → (k : ℕ) → k < suc n → u k ≡ v k
      by (inl s) ih = extended n (λ k. u k ≡ v k) (ih (omega arith)) s.1
      by (inr s) ih = absurd (omega arith)

  pub equal_of_no_differences : (n : ℕ) → differences n u v ≡ 0 → (k : ℕ) → k < n → u k ≡ v k
  equal_of_no_differences n e = none n (le_of_eq e)

  pub one : (n : ℕ) → differences (suc n) u v ≤ 1 → (i : ℕ) × (i < suc n) × ((k : ℕ) → k < suc n → (k ≡ i → ⊥) → u k ≡ v k)
  one zero h = (0, omega arith, λ k b ne. absurd (ne (omega arith)))
  one (suc n) h = by (split (suc n)) (one n)
    where
      Claim : ℕ → Type 0
      Claim n = (i : ℕ) × (i < n) × ((k : ℕ) → k < n → (k ≡ i → ⊥) → u k ≡ v k)

      by : ((differences (suc (suc n)) u v ≡ differences (suc n) u v) × (u (suc n) ≡ v (suc n)))
          ⊎ (differences (suc (suc n)) u v ≡ differences (suc n) u v + 1)
          → (differences (suc n) u v ≤ 1 → Claim (suc n)) → Claim (suc (suc n))
      by (inl s) ih =
          let c : Claim (suc n) = ih (omega arith) in
          (c.0, omega arith, extended (suc n) (λ k. (k ≡ c.0 → ⊥) → u k ≡ v k) c.2 (λ ne. s.1))
      by (inr s) ih = (
        suc n,
        omega arith,
        extended (suc n) (λ k. (k ≡ suc n → ⊥) → u k ≡ v k) (λ k b ne. none (suc n) (omega arith) k b) (λ ne. absurd (ne refl)),
      )

  pub two : (n : ℕ) → differences (suc (suc n)) u v ≤ 2
      → (i : ℕ) × (j : ℕ) × (i < j) × (j < suc (suc n)) × AgreeBut (suc (suc n)) u v i j
  two zero h = (0, 1, omega arith, omega arith, λ k b ni nj. absurd (none_left k b ni nj))
    where
      none_left : (k : ℕ) → k < 2 → (k ≡ 0 → ⊥) → (k ≡ 1 → ⊥) → ⊥
      none_left zero b ni nj = ni refl
      none_left (suc zero) b ni nj = nj refl
      none_left (suc (suc k)) b ni nj = omega arith
  two (suc n) h = by (split (suc (suc n))) (two n)
    where
      Claim : ℕ → Type 0
      Claim n = (i : ℕ) × (j : ℕ) × (i < j) × (j < n) × AgreeBut n u v i j

      by : ((differences (suc (suc (suc n))) u v ≡ differences (suc (suc n)) u v) × (u (suc (suc n)) ≡ v (suc (suc n))))
          ⊎ (differences (suc (suc (suc n))) u v ≡ differences (suc (suc n)) u v + 1)
          → (differences (suc (suc n)) u v ≤ 2 → Claim (suc (suc n))) → Claim (suc (suc (suc n)))
      by (inl s) ih =
          let c : Claim (suc (suc n)) = ih (omega arith) in (
            c.0,
            c.1,
            c.2,
            omega arith,
            extended (suc (suc n)) (λ k. (k ≡ c.0 → ⊥) → (k ≡ c.1 → ⊥) → u k ≡ v k) c.4 (λ ni nj. s.1),
          )
      by (inr s) ih =
          let c = one (suc n) (omega arith) in (
            c.0,
            suc (suc n),
            c.1,
            omega arith,
            extended (suc (suc n)) (λ k. (k ≡ c.0 → ⊥) → (k ≡ suc (suc n) → ⊥) → u k ≡ v k) (λ k b ni nj. c.2 k b ni)
                (λ ni nj. absurd (nj refl)),
          )

-- ---- bounds

-- what one index counts, by whether the values agree there
abbrev counted : Bool → ℕ
counted t = cond t 0 1

count_le : (b : Bool) → counted b ≤ 1
count_le true = omega arith
count_le false = omega arith

count_none : (a b : ℕ) → a ≡ b → counted (eqb a b) ≡ 0
count_none a b e = ap counted (eq-eqb a b e)

pub differences_none : (u v : ℕ → ℕ) (n : ℕ) → ((k : ℕ) → k < n → u k ≡ v k) → differences n u v ≡ 0
unfolding differences
differences_none u v zero e = refl
differences_none u v (suc n) e =
    omega (arith, differences_none u v n (λ k h. e k (omega arith)), count_none (u n) (v n) (e n (omega arith)))

-- they agree but for i
pub differences_one : (u v : ℕ → ℕ) (i n : ℕ) → AgreeBut n u v i i → differences n u v ≤ 1
unfolding differences
differences_one u v i zero e = omega arith
differences_one u v i (suc n) e = by (ℕ_discrete n i) (differences_one u v i n (λ k h. e k (omega arith)))
  where
    by : Dec (n ≡ i) → differences n u v ≤ 1 → differences n u v + counted (eqb (u n) (v n)) ≤ 1
    by (yes same) ih =
        omega (arith, count_le (eqb (u n) (v n)), differences_none u v n (λ k h. e k (omega arith) (λ q. omega arith) (λ q. omega arith)))
    by (no apart) ih = omega (arith, count_none (u n) (v n) (e n (omega arith) apart apart))

-- two that each differ from a third differ from each other in no more places than both
pub differences_both : (r u v : ℕ → ℕ) (n : ℕ) → differences n u v ≤ differences n r u + differences n r v
unfolding differences
differences_both r u v zero = omega arith
differences_both r u v (suc n) =
    omega (arith, differences_both r u v n, at (eqb (r n) (u n)) (eqb (r n) (v n)) refl refl)
  where
    at : (b d : Bool) → eqb (r n) (u n) ≡ b → eqb (r n) (v n) ≡ d → counted (eqb (u n) (v n)) ≤ counted b + counted d
    at true true e q = omega (arith, count_none (u n) (v n) (sym (eqb-true (r n) (u n) e) ∙ eqb-true (r n) (v n) q))
    at true false e q = count_le (eqb (u n) (v n))
    at false true e q = count_le (eqb (u n) (v n))
    at false false e q = omega (arith, count_le (eqb (u n) (v n)))
