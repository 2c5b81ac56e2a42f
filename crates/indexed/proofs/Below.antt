-- The first number below a bound that passes a test: how a search finds it, and what is known of it.
-- Assumes nothing.
use mathlib.Core.Path.{◌≡◌, sym, ap, subst, ◌∙◌}
use mathlib.Core.Bool.{Bool, true, false}
use Prim.Native.Nat.{ℕ, ◌+◌, ◌<◌, ◌≤◌}
use native.Mathlib.Decide.{dec_lt}
use native.Mathlib.Nat.{lt_of_lt_of_le}
use native.Mathlib.Omega.{arith}
use lib.ListN.{length, get_or}
use Rattle.indexed.specs.List.{below, first_below, first_where}
use Rattle.indexed.proofs.First.{first_at, first_none, first_le, first_before, first_passes}
use Rattle.indexed.proofs.Tabulate.{length_tabulate, get_d_tabulate}

-- what holds below n and at n holds below n + 1
pub one_more_below : (n : ℕ) (P : ℕ → Type 0) → ((k : ℕ) → k < n → P k) → P n → (k : ℕ) → k < n + 1 → P k
one_more_below n P seen now k h = by (dec_lt k n)
  where
    by : Dec (k < n) → P k
    by (yes b) = seen k b
    by (no b) = let e : n ≡ k = omega arith in subst P e now

pub length_below : (n : ℕ) → length (below n) ≡ n
unfolding below
length_below n = length_tabulate n (λ k. k)

pub get_or_below : (n k d : ℕ) → k < n → get_or (below n) k d ≡ k
unfolding below
get_or_below n k d h = get_d_tabulate n (λ k. k) k d h

module _ (n : ℕ) (p : ℕ → Bool) where
  pub first_below_at : (k : ℕ) → k < n → ((j : ℕ) → j < k → p j ≡ false) → p k ≡ true → first_below n p ≡ k
  unfolding first_below
  first_below_at k h none passes =
      first_at p (below n) k (rw (length_below n) h) (λ j b. ap p (get_or_below n j 0 (omega arith)) ∙ none j b)
      (ap p (get_or_below n k 0 h) ∙ passes)

  pub first_below_none : ((j : ℕ) → j < n → p j ≡ false) → first_below n p ≡ n
  unfolding first_below
  first_below_none none =
      first_none p (below n) n (sym (length_below n)) (λ j b. ap p (get_or_below n j 0 b) ∙ none j b)

  pub first_below_le : first_below n p ≤ n
  unfolding first_below
  first_below_le = rw (length_below n) at (first_le p (below n))

  pub first_below_before : (j : ℕ) → j < first_below n p → p j ≡ false
  unfolding first_below
  first_below_before j h = sym (ap p (get_or_below n j 0 (lt_of_lt_of_le h first_below_le))) ∙ first_before p (below n) j h

  pub first_below_passes : first_below n p < n → p (first_below n p) ≡ true
  unfolding first_below
  first_below_passes h =
      sym (ap p (get_or_below n (first_where p (below n)) 0 h)) ∙ first_passes p (below n) (rw (length_below n) h)

-- two tests that agree find the same
pub first_below_same : (n : ℕ) (p q : ℕ → Bool) → ((k : ℕ) → k < n → p k ≡ q k) → first_below n p ≡ first_below n q
first_below_same n p q e = by (dec_lt (first_below n p) n)
  where
    by : Dec (first_below n p < n) → first_below n p ≡ first_below n q
    by (yes h) =
        sym (first_below_at n q (first_below n p) h (λ j b. sym (e j (omega arith)) ∙ first_below_before n p j b)
        (sym (e (first_below n p) h) ∙ first_below_passes n p h))
    by (no h) =
        let all : first_below n p ≡ n = omega (arith, first_below_le n p) in
        all ∙ sym (first_below_none n q (λ j b. sym (e j b) ∙ first_below_before n p j (rw all b)))
