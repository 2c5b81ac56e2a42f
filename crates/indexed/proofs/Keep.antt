-- The numbers below n that pass a test, in their order: which they are, that none is left out, and that they ascend.
-- Assumes nothing.
use mathlib.Core.Path.{◌≡◌, refl, sym, ap, ◌∙◌}
use mathlib.Core.Bool.{Bool, true, false, cond, true≢false}
use mathlib.Core.List.{List, ◌∷◌}
use Prim.Native.Nat.{ℕ, zero, suc, ◌+◌, ◌<◌, ◌≤◌, suc-le-suc}
use native.Mathlib.Nat.{not-suc-le-zero, le_of_suc-le-suc, zero-lt-suc}
use native.Mathlib.Decide.{ℕ_discrete}
use native.Mathlib.Omega.{arith}
use lib.ListN.{length, get_or}
use Rattle.indexed.specs.List.{tabulate, tabulate_from, below, keep}

-- the list holds the numbers from i to n - 1 that pass, ascending
pub record Kept (p : ℕ → Bool) (i n : ℕ) (l : List ℕ) : Type 0 where
  pub from : (j : ℕ) → j < length l → i ≤ get_or l j 0
  pub under : (j : ℕ) → j < length l → get_or l j 0 < n
  pub passes : (j : ℕ) → j < length l → p (get_or l j 0) ≡ true
  pub ascending : (j k : ℕ) → j < k → k < length l → get_or l j 0 < get_or l k 0
  pub complete : (k : ℕ) → i ≤ k → k < n → p k ≡ true → (j : ℕ) × (j < length l) × (get_or l j 0 ≡ k)

-- one number more in front, by what its test gave
kept_step : (p : ℕ → Bool) (i n : ℕ) (l : List ℕ) → i < n → (b : Bool) → p i ≡ b → Kept p (suc i) n l → Kept p i n (cond b (i ∷ l) l)
kept_step p i n l h true e r = record { from = from; under = under; passes = passes; ascending = ascending; complete = complete }
  where
    from : (j : ℕ) → j < suc (length l) → i ≤ get_or (i ∷ l) j 0
    from zero b = omega arith
    from (suc j) b = omega (arith, r.from j (le_of_suc-le-suc b))

    under : (j : ℕ) → j < suc (length l) → get_or (i ∷ l) j 0 < n
    under zero b = h
    under (suc j) b = r.under j (le_of_suc-le-suc b)

    passes : (j : ℕ) → j < suc (length l) → p (get_or (i ∷ l) j 0) ≡ true
    passes zero b = e
    passes (suc j) b = r.passes j (le_of_suc-le-suc b)

    ascending : (j k : ℕ) → j < k → k < suc (length l) → get_or (i ∷ l) j 0 < get_or (i ∷ l) k 0
    ascending j zero a b = absurd (not-suc-le-zero a)
    ascending zero (suc k) a b = r.from k (le_of_suc-le-suc b)
    ascending (suc j) (suc k) a b = r.ascending j k (le_of_suc-le-suc a) (le_of_suc-le-suc b)

    complete : (k : ℕ) → i ≤ k → k < n → p k ≡ true → (j : ℕ) × (j < suc (length l)) × (get_or (i ∷ l) j 0 ≡ k)
    complete k a b q = by (ℕ_discrete i k)
      where
        by : Dec (i ≡ k) → (j : ℕ) × (j < suc (length l)) × (get_or (i ∷ l) j 0 ≡ k)
        by (yes same) = (0, zero-lt-suc (length l), same)
        by (no apart) = let c = r.complete k (omega arith) b q in (suc c.0, suc-le-suc c.1, c.2)
kept_step p i n l h false e r = record {
  from = λ j b. omega (arith, r.from j b);
  under = r.under;
  passes = r.passes;
  ascending = r.ascending;
  complete = λ k a b q. by k a b q (ℕ_discrete i k);
}
  where
    by : (k : ℕ) → i ≤ k → k < n → p k ≡ true → Dec (i ≡ k) → (j : ℕ) × (j < length l) × (get_or l j 0 ≡ k)
    by k a b q (yes same) = absurd (true≢false (sym q ∙ ap p (sym same) ∙ e))
    by k a b q (no apart) = r.complete k (omega arith) b q

kept_from : (p : ℕ → Bool) (i m n : ℕ) → i + m ≡ n → Kept p i n (keep p (tabulate_from i m (λ k. k)))
unfolding keep tabulate_from
kept_from p i zero n e = record {
  from = λ j b. absurd (not-suc-le-zero b);
  under = λ j b. absurd (not-suc-le-zero b);
  passes = λ j b. absurd (not-suc-le-zero b);
  ascending = λ j k a b. absurd (not-suc-le-zero b);
  complete = λ k a b q. absurd (omega arith);
}
kept_from p i (suc m) n e =
    kept_step p i n (keep p (tabulate_from (suc i) m (λ k. k))) (omega arith) (p i) refl (kept_from p (suc i) m n (omega arith))

pub kept_below : (p : ℕ → Bool) (n : ℕ) → Kept p 0 n (keep p (below n))
unfolding below tabulate
kept_below p n = kept_from p 0 n n (omega arith)
