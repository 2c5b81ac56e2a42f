-- The tracks that hold, one track at a time: the list of them grows at its end, and is no longer than those that were tried; the one that is
-- found is among these.
-- Assumes nothing.
use mathlib.Core.Path.{◌≡◌, refl, sym, ap, subst, ◌∙◌}
use mathlib.Core.Bool.{Bool, true, false, cond}
use mathlib.Core.List.{List, [], ◌∷◌, ◌++◌}
use Prim.Native.Nat.{ℕ, suc, ◌<◌, ◌≤◌}
use native.Mathlib.Omega.{arith}
use lib.ListN.{length, get_or}
use Rattle.indexed.specs.List.{tabulate, below, keep}
use Rattle.indexed.proofs.Keep.{kept_below}
use Rattle.indexed.proofs.Tabulate.{length_tabulate, tabulate_last}
use Rattle.std.specs.Prelude.{IfOk, Result}
use Rattle.judge800.specs.Told.{one_found}
use Rattle.judge800.specs.declared.track.Unlocated.{Unlocated}

-- the step over one element, by what its test gave
append_step : (b : Bool) (y : ℕ) (l m : List ℕ) → cond b (y ∷ (l ++ m)) (l ++ m) ≡ cond b (y ∷ l) l ++ m
append_step true y l m = refl
append_step false y l m = refl

-- the one of a list that is found is in the list
one_within : (n : ℕ) (l : List ℕ) → ((i : ℕ) → i < length l → get_or l i 0 < n) → IfOk (one_found l) (λ (track : ℕ). track < n)
one_within n [] h = tt
one_within n (j ∷ []) h = h 0 (omega arith)
one_within n (i ∷ j ∷ more) h = tt

module _ (p : ℕ → Bool) where
  keep_snoc : (l : List ℕ) (x : ℕ) → keep p (l ++ (x ∷ [])) ≡ keep p l ++ cond (p x) (x ∷ []) []
  unfolding keep
  keep_snoc [] x = refl
  keep_snoc (y ∷ l) x =
      ap (λ (k : List ℕ). cond (p y) (y ∷ k) k) (keep_snoc l x) ∙ append_step (p y) y (keep p l) (cond (p x) (x ∷ []) [])

  pub kept_next : (j : ℕ) → keep p (below (suc j)) ≡ keep p (below j) ++ cond (p j) (j ∷ []) []
  unfolding below
  kept_next j = ap (keep p) (tabulate_last j (λ k. k)) ∙ keep_snoc (tabulate j (λ k. k)) j

  kept_step : (b : Bool) (x : ℕ) (l : List ℕ) (n : ℕ) → length l ≤ n → length (cond b (x ∷ l) l) ≤ suc n
  kept_step true x l n h = omega (arith, h)
  kept_step false x l n h = omega (arith, h)

  keep_le : (l : List ℕ) → length (keep p l) ≤ length l
  unfolding keep
  keep_le [] = omega arith
  keep_le (x ∷ l) = kept_step (p x) x (keep p l) (length l) (keep_le l)

  pub kept_le : (n : ℕ) → length (keep p (below n)) ≤ n
  unfolding below
  kept_le n = let P : ℕ → Type 0 = λ m. length (keep p (below n)) ≤ m in subst P (length_tabulate n (λ k. k)) (keep_le (below n))

  pub found_within : (n : ℕ) (found : Result ℕ Unlocated) → found ≡ one_found (keep p (below n)) → IfOk found (λ (track : ℕ). track < n)
  found_within n found e =
      subst (λ (f : Result ℕ Unlocated). IfOk f (λ (track : ℕ). track < n)) (sym e) (one_within n (keep p (below n)) (kept_below p n).under)
