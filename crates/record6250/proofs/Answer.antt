-- The answer of a reading, check by check; and what a delivery says of the checks, in reading and in writing.
-- Assumes nothing.
use mathlib.Core.Path.{◌≡◌, sym, ap, ◌∙◌}
use mathlib.Core.Bool.{Bool, true, false, cond}
use mathlib.Core.List.{List, [], ◌∷◌}
use Prim.Native.Nat.{ℕ, ◌-◌, ◌*◌, ◌<◌, ◌≤◌}
use native.Mathlib.Nat.{le_of_eq}
use native.Mathlib.Omega.{arith}
use borrow.Author.Tests.{lt-ltb, le-ltb, le-leb, leb-true, ltb-false}
use lib.Dec.{ltb, leb}
use lib.ListN.{length}
use Rattle.indexed.proofs.Below.{first_below_le}
use Rattle.answer.specs.Answer.{Answer, delivered, refused_for}
use Rattle.answer.specs.declared.Reason.TheVariants.{Length, Space, StrayBits}
use Rattle.answer.proofs.Passed.{test_held, test_failed}
use Rattle.rectangular.specs.Constants.{most_data, numbers_per_group}
use Rattle.record6250.specs.Fits.{Passes}
use Rattle.record6250.specs.Read.{lengths_suit, stray_at, first_stray, judged_answer, answer_if, read_answer}
use Rattle.record6250.specs.Record.{groups_for}
use Rattle.record6250.specs.Written.{write_answer}

module _ (backward : Bool) (words maps : List ℕ) where
  -- ---- lengths, space and stray bits

  module _ (enough : Bool) where
    abbrev after_space : Answer
    after_space = cond (ltb (first_stray backward words maps) (length maps)) (refused_for StrayBits (first_stray backward words maps)) (judged_answer backward words maps)

    abbrev after_length : Answer
    after_length = cond enough after_space (refused_for Space 0)

    pub length_refused : lengths_suit (length words) (length maps) ≡ false → answer_if backward words maps enough ≡ refused_for Length 0
    unfolding answer_if
    length_refused e = ap (λ (b : Bool). cond b after_length (refused_for Length 0)) e

    module _ (suits : lengths_suit (length words) (length maps) ≡ true) where
      length_passed : answer_if backward words maps enough ≡ after_length
      unfolding answer_if
      length_passed = ap (λ (b : Bool). cond b after_length (refused_for Length 0)) suits

      pub space_refused : enough ≡ false → answer_if backward words maps enough ≡ refused_for Space 0
      space_refused e = length_passed ∙ ap (λ (b : Bool). cond b after_space (refused_for Space 0)) e

      module _ (has : enough ≡ true) where
        space_passed : answer_if backward words maps enough ≡ after_space
        space_passed = length_passed ∙ ap (λ (b : Bool). cond b after_space (refused_for Space 0)) has

        pub stray_refused : first_stray backward words maps < length maps → answer_if backward words maps enough ≡ refused_for StrayBits (first_stray backward words maps)
        stray_refused h =
            space_passed
            ∙ ap (λ (b : Bool). cond b (refused_for StrayBits (first_stray backward words maps)) (judged_answer backward words maps)) (lt-ltb _ _ h)

        pub all_passed : length maps ≤ first_stray backward words maps → answer_if backward words maps enough ≡ judged_answer backward words maps
        all_passed h =
            space_passed
            ∙ ap (λ (b : Bool). cond b (refused_for StrayBits (first_stray backward words maps)) (judged_answer backward words maps)) (le-ltb _ _ h)

  pub passed : lengths_suit (length words) (length maps) ≡ true → length maps ≤ first_stray backward words maps → Passes backward words maps
  unfolding first_stray
  passed suits h = record { lengths = suits; no_stray = omega (arith, first_below_le (length maps) (stray_at backward words maps)) }

  -- what is delivered has passed
  pub delivered_if : (enough : Bool) (figures : List ℕ) → answer_if backward words maps enough ≡ delivered figures → Passes backward words maps × (enough ≡ true)
  unfolding answer_if
  delivered_if enough figures e =
      let lengths = test_held (lengths_suit (length words) (length maps)) _ 1 0 figures e in
      let space = test_held enough _ 2 0 figures lengths.1 in
      let stray = test_failed (ltb (first_stray backward words maps) (length maps)) _ 3 _ figures space.1 in
      (passed lengths.0 (ltb-false _ _ stray.0), space.0)

  pub delivered_passed : (space : ℕ) (figures : List ℕ) → read_answer backward words maps space ≡ delivered figures
      → Passes backward words maps × (7 * length maps - 1 ≤ space)
  unfolding read_answer
  delivered_passed space figures e =
      let both = delivered_if (leb (7 * length maps - 1) space) figures e in (both.0, leb-true _ _ both.1)

  -- with space enough
  pub answer_passed : Passes backward words maps → (space : ℕ) → 7 * length maps - 1 ≤ space → read_answer backward words maps space ≡ judged_answer backward words maps
  unfolding read_answer
  answer_passed passes space enough =
      all_passed (leb (7 * length maps - 1) space) passes.lengths (le-leb _ _ enough) (le_of_eq (sym passes.no_stray))

-- what a writer delivers has passed, and tells the number of groups
pub written_passed : (size space : ℕ) (figures : List ℕ) → write_answer size space ≡ delivered figures
    → (figures ≡ groups_for size ∷ []) × (numbers_per_group * groups_for size ≤ space)
unfolding write_answer
written_passed size space figures e =
    let enough = test_held (leb (numbers_per_group * groups_for size) space) (delivered (groups_for size ∷ [])) 2 0 figures (test_held (leb size most_data) _ 1 0 figures e).1 in
    let told : delivered (groups_for size ∷ []) ≡ delivered figures = enough.1 in
    (cc, leb-true _ _ enough.0)

-- and data within the limits are delivered, if there is space
pub write_delivers : (size space : ℕ) → size ≤ most_data → numbers_per_group * groups_for size ≤ space → write_answer size space ≡ delivered (groups_for size ∷ [])
unfolding write_answer
write_delivers size space within enough = simp (le-leb size most_data within, le-leb (numbers_per_group * groups_for size) space enough)
