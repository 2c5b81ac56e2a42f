-- A run of stores, one a turn.
-- Assumes nothing.
use Prim.Native.Nat.{ℕ, suc, ◌+◌, ◌<◌}
use mathlib.Core.Path.{◌≡◌, sym, ap, ap₂, ◌∙◌}
use mathlib.Core.List.{List, [], ◌∷◌, ◌++◌}
use native.Mathlib.Nat.{add-zero, add-suc, suc-add}
use native.Mathlib.Numerals.{add-one}
use native.Mathlib.Omega.{arith}
use lib.ListN.{length, get_or, take, set}
use lib.Seq.{sets, take-suc, length-take-le}

-- one run of stores behind another
pub sets_append : (us vs l : List ℕ) (i : ℕ) → sets (sets l i us) (i + length us) vs ≡ sets l i (us ++ vs)
sets_append [] vs l i = ap (λ (j : ℕ). sets l j vs) (add-zero i)
sets_append (a ∷ us) vs l i =
    ap (λ (j : ℕ). sets (sets (set l i a) (suc i) us) j vs) (add-suc i (length us) ∙ sym (suc-add i (length us))) ∙ sets_append us vs (set l i a) (suc i)

-- the stores of the first k elements of a row, and of one more
pub sets_taken : (row l m : List ℕ) (at k : ℕ) → m ≡ sets l at (take k row) → k < length row → set m (at + k) (get_or row k 0) ≡ sets l at (take (k + 1) row)
sets_taken row l m at k hm h =
    let size : length (take k row) ≡ k = length-take-le k row (omega arith) in
    ap₂ (λ (xs : List ℕ) (j : ℕ). set xs (at + j) (get_or row k 0)) hm (sym size)
    ∙ sets_append (take k row) (get_or row k 0 ∷ []) l at
    ∙ ap (sets l at) (sym (ap (λ (j : ℕ). take j row) (add-one k) ∙ take-suc row k 0 h))
