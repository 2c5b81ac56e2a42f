-- Answers whose refusals are among the table's: every reason's number is, and a choice between two such answers is one.
-- Assumes nothing.
use mathlib.Core.Bool.{Bool, true, false, ◌&&◌, ◌||◌, cond}
use mathlib.Core.List.Memᴰ
use mathlib.Core.List.{List, [], ◌∷◌, Memᴰ}
use mathlib.Core.Logic.{◌⊎◌, inl, inr}
use mathlib.Core.Path.{◌≡◌, refl}
use Prim.{Unit}
use Prim.Native.Nat.{ℕ, ◌<◌}
use native.Mathlib.Omega.{arith}
use borrow.Author.Tests.{eqb-true}
use lib.Dec.{T, eqb, ltb, ltb→lt}
use Rattle.indexed.proofs.Test.{both_left, both_right}
use Rattle.answer.specs.Answer.{Answer, delivered, refused, refused_for, number_of, refusals}
use Rattle.answer.specs.declared.Reason.{Reason}
use Rattle.answer.specs.declared.Reason.TheVariants.{Length, Space, StrayBits, ManyPointed, NoGroup, Padding, NoRecord, SeveralRecords, LogLength, LogContent, CardContent, CardLength}

-- a test whether a number stands in a list
stands : ℕ → List ℕ → Bool
stands n [] = false
stands n (x ∷ xs) = eqb n x || stands n xs

is_member : (n : ℕ) (l : List ℕ) → T (stands n l) → Memᴰ n l
unfolding stands
is_member n [] t = absurd t
is_member n (x ∷ xs) t = by (eqb n x) refl (is_member n xs) t
  where
    by : (b : Bool) → eqb n x ≡ b → (T (stands n xs) → Memᴰ n xs) → T (b || stands n xs) → Memᴰ n (x ∷ xs)
    by true e behind t = Memᴰ.head (eqb-true n x e)
    by false e behind t = Memᴰ.tail (behind t)

pub listed : (reason : Reason) → Memᴰ (number_of reason) refusals
unfolding stands
listed Length = is_member _ refusals tt
listed Space = is_member _ refusals tt
listed StrayBits = is_member _ refusals tt
listed ManyPointed = is_member _ refusals tt
listed NoGroup = is_member _ refusals tt
listed Padding = is_member _ refusals tt
listed NoRecord = is_member _ refusals tt
listed SeveralRecords = is_member _ refusals tt
listed LogLength = is_member _ refusals tt
listed LogContent = is_member _ refusals tt
listed CardContent = is_member _ refusals tt
listed CardLength = is_member _ refusals tt

-- a call from C returns 0 for a delivery: no refusal has that number
positives : List ℕ → Bool
positives [] = true
positives (x ∷ xs) = ltb 0 x && positives xs

all_positive : (l : List ℕ) → T (positives l) → (n : ℕ) → Memᴰ n l → 0 < n
unfolding positives
all_positive [] t n m = absurd (Memᴰ.not-nil m)
all_positive (x ∷ xs) t n m = by (Memᴰ.cases_cons m) (all_positive xs (both_right (ltb 0 x) (positives xs) t) n)
  where
    by : (n ≡ x) ⊎ Memᴰ n xs → (Memᴰ n xs → 0 < n) → 0 < n
    by (inl e) behind = omega (arith, ltb→lt 0 x (both_left (ltb 0 x) (positives xs) t))
    by (inr k) behind = behind k

pub listed_positive : (n : ℕ) → Memᴰ n refusals → 0 < n
unfolding positives
listed_positive = all_positive refusals tt

-- a delivery, or a refusal whose number is listed and whose place is 0 or below that number's bound
unfoldable pub Listed : (ℕ → ℕ) → Answer → Type 0
Listed bound (delivered figures) = Unit
Listed bound (refused number place) = Memᴰ number refusals × ((place < bound number) ⊎ (place ≡ 0))

module _ (bound : ℕ → ℕ) where
  pub listed_delivery : (figures : List ℕ) → Listed bound (delivered figures)
  unfolding Listed
  listed_delivery figures = tt

  pub listed_at : (reason : Reason) (place : ℕ) → (place < bound (number_of reason)) ⊎ (place ≡ 0) → Listed bound (refused_for reason place)
  unfolding Listed
  listed_at reason place h = (listed reason, h)

  -- a refusal that has no place of its own
  pub listed_refusal : (reason : Reason) → Listed bound (refused_for reason 0)
  listed_refusal reason = listed_at reason 0 (inr refl)

  pub listed_choice : (b : Bool) (x y : Answer) → (b ≡ true → Listed bound x) → (b ≡ false → Listed bound y) → Listed bound (cond b x y)
  listed_choice true x y p q = p refl
  listed_choice false x y p q = q refl
