-- The first element that passes a test: how a search that went through a list finds it, and what is known of it.
-- Assumes nothing.
use mathlib.Core.Path.{◌≡◌, refl, sym, ap, ◌∙◌}
use mathlib.Core.Bool.{Bool, true, false, cond, true≢false}
use mathlib.Core.List.{List, [], ◌∷◌}
use Prim.Native.Nat.{ℕ, zero, suc, ◌<◌, ◌≤◌, zero-le, suc-le-suc}
use native.Mathlib.Nat.{not-suc-le-zero, le_of_suc-le-suc, zero-lt-suc, suc-ne-zero, suc_inj}
use native.Mathlib.Decide.{dec_lt}
use native.Mathlib.Omega.{arith}
use lib.ListN.{length, get_or}
use Rattle.std.specs.List.{position_or_len}
use Rattle.std.proofs.lemmas.List.Recursion.{is_position_or_len}
use Rattle.indexed.specs.List.{first_where}

-- none of the first k elements passes
abbrev pub NoneBelow : (ℕ → Bool) → List ℕ → ℕ → Type 0
NoneBelow p l k = (j : ℕ) → j < k → p (get_or l j 0) ≡ false

-- the head does not pass, and the tail has none below k
tail_none : (p : ℕ → Bool) (x : ℕ) (xs : List ℕ) (k : ℕ) → NoneBelow p (x ∷ xs) (suc k) → NoneBelow p xs k
tail_none p x xs k none j h = none (suc j) (suc-le-suc h)

pub first_at : (p : ℕ → Bool) (l : List ℕ) (k : ℕ) → k < length l → NoneBelow p l k → p (get_or l k 0) ≡ true → first_where p l ≡ k
unfolding first_where
first_at p [] k h none passes = absurd (not-suc-le-zero h)
first_at p (x ∷ xs) zero h none passes = ap (λ (b : Bool). cond b zero (suc (first_where p xs))) passes
first_at p (x ∷ xs) (suc k) h none passes =
    ap (λ (b : Bool). cond b zero (suc (first_where p xs))) (none 0 (zero-lt-suc k))
    ∙ ap suc (first_at p xs k (le_of_suc-le-suc h) (tail_none p x xs k none) passes)

pub first_none : (p : ℕ → Bool) (l : List ℕ) (k : ℕ) → k ≡ length l → NoneBelow p l k → first_where p l ≡ k
unfolding first_where
first_none p [] k e none = sym e
first_none p (x ∷ xs) zero e none = absurd (suc-ne-zero _ (sym e))
first_none p (x ∷ xs) (suc k) e none =
    ap (λ (b : Bool). cond b zero (suc (first_where p xs))) (none 0 (zero-lt-suc k))
    ∙ ap suc (first_none p xs k (suc_inj e) (tail_none p x xs k none))

-- the step over one element, by what its test gave
le_step : (b : Bool) (m n : ℕ) → m ≤ n → cond b zero (suc m) ≤ suc n
le_step true m n h = zero-le
le_step false m n h = suc-le-suc h

pub first_le : (p : ℕ → Bool) (l : List ℕ) → first_where p l ≤ length l
unfolding first_where
first_le p [] = zero-le
first_le p (x ∷ xs) = le_step (p x) (first_where p xs) (length xs) (first_le p xs)

none_step : (p : ℕ → Bool) (x : ℕ) (xs : List ℕ) (b : Bool) → p x ≡ b → (m : ℕ) → NoneBelow p xs m → NoneBelow p (x ∷ xs) (cond b zero (suc m))
none_step p x xs true e m none j h = absurd (not-suc-le-zero h)
none_step p x xs false e m none zero h = e
none_step p x xs false e m none (suc j) h = none j (le_of_suc-le-suc h)

pub first_before : (p : ℕ → Bool) (l : List ℕ) → NoneBelow p l (first_where p l)
unfolding first_where
first_before p [] = λ j h. absurd (not-suc-le-zero h)
first_before p (x ∷ xs) = none_step p x xs (p x) refl (first_where p xs) (first_before p xs)

passes_step : (p : ℕ → Bool) (x : ℕ) (xs : List ℕ) (b : Bool) → p x ≡ b → (m : ℕ) → (m < length xs → p (get_or xs m 0) ≡ true)
    → cond b zero (suc m) < suc (length xs) → p (get_or (x ∷ xs) (cond b zero (suc m)) 0) ≡ true
passes_step p x xs true e m ih h = e
passes_step p x xs false e m ih h = ih (le_of_suc-le-suc h)

pub first_passes : (p : ℕ → Bool) (l : List ℕ) → first_where p l < length l → p (get_or l (first_where p l) 0) ≡ true
unfolding first_where
first_passes p [] h = absurd (not-suc-le-zero h)
first_passes p (x ∷ xs) h = passes_step p x xs (p x) refl (first_where p xs) (first_passes p xs) h

-- where some element passes, the search finds one
pub first_found : (p : ℕ → Bool) (l : List ℕ) (k : ℕ) → k < length l → p (get_or l k 0) ≡ true → first_where p l < length l
first_found p l k h passes = by (dec_lt (first_where p l) (length l))
  where
    by : Dec (first_where p l < length l) → first_where p l < length l
    by (yes b) = b
    by (no b) = absurd (true≢false (sym passes ∙ first_before p l k (omega arith)))

-- it is where std finds it
pub first_where-position : (p : ℕ → Bool) (l : List ℕ) → first_where p l ≡ position_or_len p l
unfolding first_where
first_where-position p = is_position_or_len (first_where p) p refl (λ x xs. ap (cond (p x) zero) (omega arith))
