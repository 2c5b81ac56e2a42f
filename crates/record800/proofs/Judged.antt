-- The answer to an 800 reading that passed, by its four cases, and the data it reads in the two of delivery.
-- Assumes nothing.
use mathlib.Core.Path.{◌≡◌, refl, sym, ap, ◌∙◌}
use mathlib.Core.Bool.{Bool, true, false, cond, true≢false}
use mathlib.Core.List.{List, [], ◌∷◌}
use Prim.Native.Nat.{ℕ, zero, suc, ◌%◌, ◌<◌}
use native.Mathlib.Nat.{zero-lt-suc, not-suc-le-zero}
use native.Mathlib.Omega.{arith}
use borrow.Author.Tests.{eqb-true, eqb-false}
use lib.Dec.{eqb}
use lib.ListN.{get_or}
use Rattle.answer.specs.Answer.{Answer, delivered, refused}
use Rattle.indexed.specs.List.{tabulate, below, keep}
use Rattle.indexed.proofs.Below.{first_below_at}
use Rattle.indexed.proofs.Keep.{Kept, kept_below}
use Rattle.cyclic.specs.Constants.{tracks}
use Rattle.record800.specs.Read.{figures_of, wrong_count, candidate, holds, one_of, judged_answer, judged_data}
use Rattle.record800.proofs.Candidate.{holds_same}

module _ (n : ℕ) (l : List ℕ) where
  -- no parity is wrong, and the reading is a written record; or some are, and one track holds, or several do; or none holds
  pub data Judged (answer : Answer) : Type 0 where
    clean : wrong_count n l ≡ 0 → holds n l 0 ≡ true → answer ≡ delivered (figures_of n tracks 0) → Judged answer
    one : 0 < wrong_count n l → (j : ℕ) → j < tracks → holds n l j ≡ true → ((i : ℕ) → i < tracks → holds n l i ≡ true → i ≡ j)
        → answer ≡ delivered (figures_of n j (wrong_count n l)) → Judged answer
    several : 0 < wrong_count n l → (i j : ℕ) → i < j → j < tracks → holds n l i ≡ true → holds n l j ≡ true → answer ≡ refused 8 0 → Judged answer
    none : ((j : ℕ) → j < tracks → holds n l j ≡ true → ⊥) → answer ≡ refused 7 0 → Judged answer

  -- by what is known of the tracks that hold
  of_kept : 0 < wrong_count n l → (held : List ℕ) → Kept (holds n l) 0 tracks held → Judged (one_of n l held)
  unfolding one_of
  of_kept some [] k = none (λ j h e. not-suc-le-zero (k.complete j (omega arith) h e).1) refl
  of_kept some (j ∷ []) k =
      one some j (k.under 0 (zero-lt-suc 0)) (k.passes 0 (zero-lt-suc 0))
      (λ i h e. only i (k.complete i (omega arith) h e))
      refl
    where
      only : (i : ℕ) → (m : ℕ) × (m < 1) × (get_or (j ∷ []) m 0 ≡ i) → i ≡ j
      only i (m, b, q) = let first : m ≡ 0 = omega arith in sym q ∙ ap (λ (x : ℕ). get_or (j ∷ []) x 0) first
  of_kept some (i ∷ j ∷ more) k =
      several some i j (k.ascending 0 1 (omega arith) (omega arith)) (k.under 1 (omega arith)) (k.passes 0 (omega arith))
      (k.passes 1 (omega arith)) refl

  of_clean : wrong_count n l ≡ 0 → (b : Bool) → holds n l 0 ≡ b → Judged (cond b (delivered (figures_of n tracks 0)) (refused 7 0))
  of_clean e true h = clean e h refl
  of_clean e false h = none (λ j b q. true≢false (sym q ∙ holds_same n l e j ∙ h)) refl

  pub judged : Judged (judged_answer n l)
  unfolding judged_answer
  judged = by (eqb (wrong_count n l) 0) refl
    where
      by : (b : Bool) → eqb (wrong_count n l) 0 ≡ b
          → Judged (cond b (cond (holds n l 0) (delivered (figures_of n tracks 0)) (refused 7 0)) (one_of n l (keep (holds n l) (below tracks))))
      by true e = of_clean (eqb-true _ _ e) (holds n l 0) refl
      by false e =
          let apart = eqb-false (wrong_count n l) 0 e in
          of_kept (positive (wrong_count n l) apart) (keep (holds n l) (below tracks)) (kept_below (holds n l) tracks)
        where
          positive : (w : ℕ) → (w ≡ 0 → ⊥) → 0 < w
          positive zero ne = absurd (ne refl)
          positive (suc w) ne = zero-lt-suc w

  -- ---- the data, from the first track that holds

  abbrev pub bytes_of : ℕ → List ℕ
  bytes_of j = tabulate n (λ k. candidate n l j k % 256)

  pub data_first : holds n l 0 ≡ true → judged_data n l ≡ bytes_of 0
  unfolding judged_data
  data_first e = ap bytes_of (first_below_at tracks (holds n l) 0 (omega arith) (λ i b. absurd (not-suc-le-zero b)) e)

  pub data_only : (j : ℕ) → j < tracks → holds n l j ≡ true → ((i : ℕ) → i < tracks → holds n l i ≡ true → i ≡ j) → judged_data n l ≡ bytes_of j
  unfolding judged_data
  data_only j h e only = ap bytes_of (first_below_at tracks (holds n l) j h (λ i b. by i b (holds n l i) refl) e)
    where
      by : (i : ℕ) → i < j → (b : Bool) → holds n l i ≡ b → holds n l i ≡ false
      by i b true q = absurd (omega (arith, only i (omega arith) q))
      by i b false q = q
