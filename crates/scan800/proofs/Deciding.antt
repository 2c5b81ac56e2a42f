-- From the sums that a pass gathers to the answer: with no wrong parity, by one test; otherwise by the tracks that hold.
-- Assumes nothing.
use mathlib.Core.Path.{◌≡◌, refl, sym, ap, ap₂, ◌∙◌}
use mathlib.Core.Bool.{Bool, cond, ◌&&◌}
use mathlib.Core.List.{List, [], ◌∷◌}
use Prim.Native.Nat.{ℕ, ◌+◌, ◌*◌, ◌%◌, ◌^◌, ◌<◌}
use native.Mathlib.Omega.{arith}
use borrow.Author.Tests.{eq-eqb, ne_eqb}
use lib.Bits.{xor_zero_r}
use lib.Dec.{eqb, lit<}
use Rattle.indexed.specs.List.{below, keep}
use Rattle.register.specs.Shift.{shifts}
use Rattle.register.specs.Xor.{◌⊕◌}
use Rattle.register.proofs.Held.{held_lt}
use Rattle.register.proofs.Parity.{sum_digits}
use Rattle.register.proofs.Shift.{shifts_add}
use Rattle.std.specs.Prelude.{Result, Ok, Err}
use Rattle.answer.specs.Answer.{Answer, delivered, refused, refused_for}
use Rattle.cyclic.specs.Constants.{feedback, offset}
use Rattle.cyclic.proofs.Constants.{exponent_of_X}
use Rattle.record800.specs.Read.{figures_of, wrong, check_read, error_pattern, longitudinal_read, wrong_parity, wrong_count, holds, one_of, judged_answer}
use Rattle.judge800.specs.Told.{one_found, reason_of}
use Rattle.judge800.specs.declared.track.Unlocated.{Unlocated}
use Rattle.scan800.specs.Told.{GatheredAre}
use Rattle.scan800.specs.declared.gather.Gathered.{Gathered}
use Rattle.record800.proofs.Candidate.{wrong_lt, no_pattern, even_wrong}

module _ (n : ℕ) (l : List ℕ) where
  parity_of_count : wrong_parity n l ≡ wrong_count n l % 2
  unfolding wrong_parity wrong_count
  parity_of_count = sum_digits (n + 2) (wrong n l) (λ k h. wrong_lt n l k)

  pub pattern_lt : error_pattern n l < 512
  unfolding error_pattern
  pattern_lt = held_lt 9 feedback 0 (n + 1) (wrong n l) (lit< tt) (λ k h. omega (arith, wrong_lt n l k))

  -- X^9 X^8 E is E, since X^17 is the identity
  pub pattern_back : (error : ℕ) → error ≡ shifts 9 feedback 8 (error_pattern n l) → shifts 9 feedback 9 error ≡ error_pattern n l
  pattern_back error e =
      ap (shifts 9 feedback 9) e
      ∙ sym (shifts_add 9 feedback 9 8 (error_pattern n l))
      ∙ exponent_of_X.identity (error_pattern n l) pattern_lt

  -- what is told of the track that is found, and of none
  abbrev pub told_found : Result ℕ Unlocated → Answer
  told_found (Ok track) = delivered (figures_of n track (wrong_count n l))
  told_found (Err unlocated) = refused_for (reason_of unlocated) 0

  told_one : (tracks : List ℕ) → one_of n l tracks ≡ told_found (one_found tracks)
  unfolding one_of
  told_one [] = refl
  told_one (j ∷ []) = refl
  told_one (i ∷ j ∷ more) = refl

  -- ---- no parity is wrong

  module _ (none_is : wrong_count n l ≡ 0) where
    clean_holds : holds n l 0 ≡ (eqb (check_read n l) offset && eqb (longitudinal_read n l) 0)
    unfolding holds shifts
    clean_holds =
        ap₂ (λ (x y : ℕ). eqb x offset && eqb (longitudinal_read n l) y)
        (ap (λ (e : ℕ). check_read n l ⊕ e) (no_pattern n l none_is) ∙ xor_zero_r (check_read n l))
        (ap (λ (w : ℕ). w * 2 ^ 0) (even_wrong n l none_is))

    pub clean_answer : (b : Bool) → b ≡ (eqb (check_read n l) offset && eqb (longitudinal_read n l) 0)
        → judged_answer n l ≡ cond b (delivered (figures_of n 9 0)) (refused 7 0)
    unfolding judged_answer
    clean_answer b e =
        ap (λ (t : Bool). cond t (cond (holds n l 0) (delivered (figures_of n 9 0)) (refused 7 0)) (one_of n l (keep (holds n l) (below 9))))
        (eq-eqb (wrong_count n l) 0 none_is)
        ∙ ap (λ (t : Bool). cond t (delivered (figures_of n 9 0)) (refused 7 0)) (clean_holds ∙ sym e)

  -- ---- some are

  module _ (some : wrong_count n l ≡ 0 → ⊥) where
    kept_answer : judged_answer n l ≡ one_of n l (keep (holds n l) (below 9))
    unfolding judged_answer
    kept_answer =
        ap (λ (t : Bool). cond t (cond (holds n l 0) (delivered (figures_of n 9 0)) (refused 7 0)) (one_of n l (keep (holds n l) (below 9))))
        (ne_eqb (wrong_count n l) 0 some)

    -- by the tracks that hold: the one, or why there is no single one
    pub found_answer : (found : Result ℕ Unlocated) → found ≡ one_found (keep (holds n l) (below 9)) → judged_answer n l ≡ told_found found
    found_answer found e = kept_answer ∙ told_one (keep (holds n l) (below 9)) ∙ ap told_found (sym e)

  -- the tracks that the code tries are those that hold
  pub found_hold : (sums : Gathered) (pattern : ℕ) (found : Result ℕ Unlocated) → GatheredAre sums n l → pattern ≡ shifts 9 feedback 9 sums.error
      → found ≡ one_found (keep (λ j. eqb (sums.check ⊕ shifts 9 feedback j pattern) offset && eqb sums.longitudinal (sums.wrong % 2 * 2 ^ j)) (below 9))
      → found ≡ one_found (keep (holds n l) (below 9))
  unfolding holds
  found_hold sums pattern found are is tried =
      simp (are.0, is ∙ pattern_back sums.error are.1, are.2, ap (λ (w : ℕ). w % 2) are.3 ∙ sym parity_of_count) at tried
