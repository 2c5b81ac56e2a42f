-- The answer of a reading, check by check; and what a delivery says of the checks, in reading and in writing.
-- Assumes nothing.
use mathlib.Core.Path.{◌≡◌, sym}
use mathlib.Core.Bool.{Bool, true, false, ◌&&◌}
use mathlib.Core.List.{List, [], ◌∷◌}
use Prim.Native.Nat.{ℕ, ◌+◌, ◌-◌, ◌<◌, ◌≤◌}
use native.Mathlib.Nat.{le_of_eq}
use native.Mathlib.Omega.{arith}
use borrow.Author.Tests.{lt-ltb, le-ltb, le-leb, leb-true, ltb-false}
use lib.Dec.{leb, ltb}
use lib.ListN.{length}
use Rattle.indexed.proofs.First.{first_le}
use Rattle.indexed.proofs.Tabulate.{length_tabulate}
use Rattle.answer.specs.Answer.{Answer, delivered, refused_for}
use Rattle.slices.specs.Above.{first_above}
use Rattle.answer.specs.declared.Reason.TheVariants.{Length, Space, StrayBits}
use Rattle.answer.proofs.Passed.{test_held, test_failed}
use Rattle.cyclic.specs.Constants.{most_character, least_data, most_data, checks}
use Rattle.record800.specs.Fits.{Passes}
use Rattle.record800.specs.Read.{picture, judged_answer, judged_data, length_suits, first_stray, answer_if, read_answer}
use Rattle.record800.specs.Written.{write_answer}
use Rattle.record800.proofs.Picture.{length_picture}

-- ---- over space enough or not

pub passed : (backward : Bool) (characters : List ℕ) → length_suits (length characters) ≡ true → length characters ≤ first_stray backward characters
    → Passes backward characters
unfolding first_stray first_above
passed backward characters suits h = record {
  lengths = suits;
  no_stray = omega (arith, first_le (λ v. ltb most_character v) (picture backward characters), length_picture backward characters);
}

module _ (backward : Bool) (characters : List ℕ) (enough : Bool) where
  abbrev answer : Answer
  answer = answer_if backward characters enough

  pub length_refused : length_suits (length characters) ≡ false → answer ≡ refused_for Length 0
  unfolding answer_if
  length_refused unsuited = simp unsuited

  module _ (suits : length_suits (length characters) ≡ true) where
    pub space_refused : enough ≡ false → answer ≡ refused_for Space 0
    unfolding answer_if
    space_refused none = simp (suits, none)

    pub stray_refused : enough ≡ true → first_stray backward characters < length characters
        → answer ≡ refused_for StrayBits (first_stray backward characters)
    unfolding answer_if
    stray_refused some h = simp (suits, some, lt-ltb _ _ h)

  pub passed_judged : Passes backward characters → enough ≡ true → answer ≡ judged_answer (length characters - checks) (picture backward characters)
  unfolding answer_if
  passed_judged passes some = simp (passes.lengths, some, le-ltb _ _ (le_of_eq (sym passes.no_stray)))

  -- what is delivered has passed
  pub delivered_if : (figures : List ℕ) → answer ≡ delivered figures → Passes backward characters × (enough ≡ true)
  unfolding answer_if
  delivered_if figures e =
      let lengths = test_held (length_suits (length characters)) _ 1 0 figures e in
      let some = test_held enough _ 2 0 figures lengths.1 in
      let stray = test_failed (ltb (first_stray backward characters) (length characters)) _ 3 _ figures some.1 in
      (passed backward characters lengths.0 (ltb-false _ _ stray.0), some.0)

-- ---- with so much space

module _ (backward : Bool) (characters : List ℕ) (space : ℕ) where
  pub all_passed : length_suits (length characters) ≡ true → length characters - checks ≤ space → length characters ≤ first_stray backward characters
      → read_answer backward characters space ≡ judged_answer (length characters - checks) (picture backward characters)
  unfolding read_answer
  all_passed suits enough h = passed_judged backward characters _ (passed backward characters suits h) (le-leb _ _ enough)

  pub delivered_passed : (figures : List ℕ) → read_answer backward characters space ≡ delivered figures
      → Passes backward characters × (length characters - checks ≤ space)
  unfolding read_answer
  delivered_passed figures e = let p = delivered_if backward characters _ figures e in (p.0, leb-true _ _ p.1)

-- what a writer delivers has passed, and tells the number of characters
pub written_passed : (size space : ℕ) (figures : List ℕ) → write_answer size space ≡ delivered figures
    → (figures ≡ (size + checks) ∷ []) × (size + checks ≤ space)
unfolding write_answer
written_passed size space figures e =
    let lengths = test_held (leb least_data size && leb size most_data) _ 1 0 figures e in
    let enough = test_held (leb (size + checks) space) (delivered ((size + checks) ∷ [])) 2 0 figures lengths.1 in
    let told : delivered ((size + checks) ∷ []) ≡ delivered figures = enough.1 in
    (cc, leb-true _ _ enough.0)

-- and data within the limits are delivered, if there is space
pub write_delivers : (size space : ℕ) → least_data ≤ size → size ≤ most_data → size + checks ≤ space
    → write_answer size space ≡ delivered ((size + checks) ∷ [])
unfolding write_answer
write_delivers size space some within enough =
    simp (le-leb least_data size some, le-leb size most_data within, le-leb (size + checks) space enough)

pub length_data : (n : ℕ) (l : List ℕ) → length (judged_data n l) ≡ n
unfolding judged_data
length_data n l = length_tabulate n _
