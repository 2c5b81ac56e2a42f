-- A result that a loop stores at the front of an output, one element a turn: after k turns the output holds the result's
-- first k elements, and behind them what it held.
-- Assumes nothing.
use mathlib.Core.Path.{◌≡◌, sym, ap, ap₂, ◌∙◌}
use mathlib.Core.List.{List, [], ◌∷◌, ◌++◌}
use Prim.Native.Nat.{ℕ, suc, ◌+◌, ◌≤◌, ◌<◌}
use native.Mathlib.Nat.{le_of_lt, add-sub_of_le}
use native.Mathlib.Numerals.{add-one}
use lib.ListN.{length, get_or, take, drop, set, length-append, length-drop, take-append-drop}
use lib.Seq.{drop-cons, take-suc, set_at, set-set, append_snoc, length-take-le, take-length, take_at, drop_at}
use native.Mathlib.Omega.{arith}
use Rattle.indexed.specs.List.{tabulate}
use Rattle.indexed.proofs.Tabulate.{length_tabulate, get_d_tabulate, tabulate_last}

abbrev pub front : {A : Type 0} → ℕ → List A → List A → List A
front k result output = take k result ++ drop k output

pub front_more : {A : Type 0} (k : ℕ) (result output : List A) (d : A) → k < length result → k < length output
    → set (front k result output) k (get_or result k d) ≡ front (k + 1) result output
front_more k result output d hr ho =
    ap (λ (r : List _). set (take k result ++ r) k (get_or result k d)) (drop-cons output k d ho)
    ∙ set_at (take k result) (get_or output k d) (drop (suc k) output) (get_or result k d) k (length-take-le k result (le_of_lt hr))
    ∙ sym (append_snoc (take k result) (get_or result k d) (drop (suc k) output))
    ∙ ap (λ (r : List _). r ++ drop (suc k) output) (sym (take-suc result k d hr))
    ∙ ap (λ (j : ℕ). front j result output) (sym (add-one k))

pub length_front : {A : Type 0} (k : ℕ) (result output : List A) → k ≤ length result → k ≤ length output
    → length (front k result output) ≡ length output
length_front k result output hr ho =
    length-append (take k result) (drop k output)
    ∙ ap (λ (j : ℕ). j + length (drop k output)) (length-take-le k result hr)
    ∙ ap (λ (j : ℕ). k + j) (length-drop k output)
    ∙ add-sub_of_le ho

pub front_all : {A : Type 0} (k : ℕ) (result output : List A) → k ≡ length result → front k result output ≡ result ++ drop k output
front_all k result output e =
    ap (λ (j : ℕ). take j result ++ drop k output) e ∙ ap (λ (r : List _). r ++ drop k output) (take-length result)

-- ---- stored last first: from place k on the output holds the whole, and in front of that what it held

pub front_less : {A : Type 0} (k : ℕ) (output whole : List A) (d : A) → k < length output → k < length whole
    → set (front (k + 1) output whole) k (get_or whole k d) ≡ front k output whole
front_less k output whole d ho hw =
    let value = get_or whole k d in
    ap (λ (l : List _). set l k value) (sym (front_more k output whole d ho hw))
    ∙ set-set (front k output whole) k (get_or output k d) value
    ∙ ap (λ (r : List _). set (take k output ++ r) k value) (drop-cons whole k d hw)
    ∙ set_at (take k output) value (drop (suc k) whole) value k (length-take-le k output (le_of_lt ho))
    ∙ ap (λ (r : List _). take k output ++ r) (sym (drop-cons whole k d hw))

pub front_none : {A : Type 0} (k : ℕ) (result output : List A) → length result ≡ k → output ≡ front k output (result ++ drop k output)
front_none k result output e =
    sym (take-append-drop k output) ∙ ap (λ (r : List _). take k output ++ r) (sym (drop_at result (drop k output) k e))

-- ---- filled with the values of a function

module _ (n : ℕ) (f : ℕ → ℕ) (out l : List ℕ) (k : ℕ) where
  pub filled_more : (v : ℕ) → l ≡ front k (tabulate n f) out → v ≡ f k → k < n → k < length out → set l k v ≡ front (k + 1) (tabulate n f) out
  filled_more v hl hv h ho =
      ap₂ (λ (xs : List ℕ) (x : ℕ). set xs k x) hl (hv ∙ sym (get_d_tabulate n f k 0 h))
      ∙ front_more k (tabulate n f) out 0 (omega (arith, length_tabulate n f)) ho

  pub filled_all : l ≡ front k (tabulate n f) out → k ≡ n → l ≡ tabulate n f ++ drop n out
  filled_all hl h =
      hl ∙ front_all k (tabulate n f) out (h ∙ sym (length_tabulate n f)) ∙ ap (λ (j : ℕ). tabulate n f ++ drop j out) h

-- one value more behind those that are stored
pub tabulated_more : (f : ℕ → ℕ) (out : List ℕ) (k v : ℕ) → k < length out → v ≡ f k
    → set (tabulate k f ++ drop k out) k v ≡ tabulate (k + 1) f ++ drop (k + 1) out
tabulated_more f out k v h e =
    let all : List ℕ = tabulate (suc k) f in
    let before : tabulate k f ≡ take k all =
    sym (take_at (tabulate k f) (f k ∷ []) k (length_tabulate k f)) ∙ ap (take k) (sym (tabulate_last k f)) in
    ap₂ (λ (l : List ℕ) (x : ℕ). set (l ++ drop k out) k x) before (e ∙ sym (get_d_tabulate (suc k) f k 0 (omega arith)))
    ∙ front_more k all out 0 (omega (arith, length_tabulate (suc k) f)) h
    ∙ front_all (k + 1) all out (add-one k ∙ sym (length_tabulate (suc k) f))
    ∙ ap (λ (n : ℕ). tabulate n f ++ drop (k + 1) out) (sym (add-one k))
