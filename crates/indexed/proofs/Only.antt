-- Zeros of which one may be set: the number stands at its place only.
-- Assumes nothing.
use mathlib.Core.Bool.{Bool, cond}
use mathlib.Core.List.{List}
use mathlib.Core.Path.{◌≡◌, sym, ap, ◌∙◌}
use Prim.Native.Nat.{ℕ, ◌<◌, ◌≤◌}
use native.Mathlib.Decide.{ℕ_discrete}
use native.Mathlib.Omega.{arith}
use borrow.Author.Tests.{eq-eqb, ne_eqb}
use lib.Dec.{eqb}
use lib.ListN.{length, get_or, set, replicate, length-set, length-replicate, get_or-replicate}
use lib.Seq.{ext_get_or, get_or-set_same, get_or-set_other}
use Rattle.indexed.specs.List.{tabulate}
use Rattle.indexed.proofs.Tabulate.{length_tabulate, get_d_tabulate}

module _ (n at v : ℕ) where
  abbrev pub only : ℕ → ℕ
  only k = cond (eqb k at) v 0

  -- at its place, and elsewhere
  there : (k : ℕ) → k ≡ at → only k ≡ v
  there k same = ap (λ (b : Bool). cond b v 0) (eq-eqb k at same)

  elsewhere : (k : ℕ) → (k ≡ at → ⊥) → only k ≡ 0
  elsewhere k apart = ap (λ (b : Bool). cond b v 0) (ne_eqb k at apart)

  pub only_set : at < n → set (replicate n 0) at v ≡ tabulate n only
  only_set h =
      let zeros : List ℕ = replicate n 0 in
      let long : length (set zeros at v) ≡ n = length-set zeros at v ∙ length-replicate n 0 in
      ext_get_or 0 _ _ (long ∙ sym (length_tabulate n only)) (λ k b. by k (omega arith) (ℕ_discrete k at))
    where
      by : (k : ℕ) → k < n → Dec (k ≡ at) → get_or (set (replicate n 0) at v) k 0 ≡ get_or (tabulate n only) k 0
      by k b (yes same) =
          ap (λ (j : ℕ). get_or (set (replicate n 0) at v) j 0) same
          ∙ get_or-set_same (replicate n 0) at v 0 (omega (arith, length-replicate {A = ℕ} n 0))
          ∙ sym (get_d_tabulate n only k 0 b ∙ there k same)
      by k b (no apart) =
          get_or-set_other (replicate n 0) at k v 0 apart
          ∙ get_or-replicate n k 0 0 b
          ∙ sym (get_d_tabulate n only k 0 b ∙ elsewhere k apart)

  pub only_none : n ≤ at → replicate n 0 ≡ tabulate n only
  only_none h =
      ext_get_or 0 _ _ (length-replicate n 0 ∙ sym (length_tabulate n only))
      (λ k b. let in_List : k < n = omega (arith, length-replicate {A = ℕ} n 0) in
      get_or-replicate n k 0 0 in_List ∙ sym (get_d_tabulate n only k 0 in_List ∙ elsewhere k (λ same. omega arith)))
