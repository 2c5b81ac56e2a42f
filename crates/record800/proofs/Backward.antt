-- A reading is read as the same turned is: its characters the other way round (the notice, second term).
-- Assumes nothing.
use mathlib.Core.Path.{◌≡◌, sym, ap, ap₂, ◌∙◌}
use mathlib.Core.Bool.{Bool, true, false, cond, not}
use mathlib.Core.List.{List}
use Prim.Native.Nat.{ℕ, ◌-◌}
use lib.Dec.{leb, ltb}
use lib.ListN.{length}
use Rattle.answer.specs.Answer.{Answer, refused_for}
use Rattle.slices.specs.Above.{first_above}
use Rattle.answer.specs.declared.Reason.TheVariants.{Length, Space, StrayBits}
use Rattle.cyclic.specs.Constants.{most_character, checks}
use Rattle.record800.specs.Read.{picture, length_suits, first_stray, judged_answer, judged_data, answer_if, read_answer, read_data}
use Rattle.record800.proofs.Picture.{length_picture, picture_forward, picture_twice}

-- the answer to so many characters of which this is the forward picture, if space is enough or not
abbrev answer_to : Bool → ℕ → List ℕ → Answer
answer_to enough count l =
    cond (length_suits count)
    (cond enough
    (cond (ltb (first_above most_character l) count) (refused_for StrayBits (first_above most_character l)) (judged_answer (count - checks) l))
    (refused_for Space 0))
    (refused_for Length 0)

backward_answer : (characters : List ℕ) (enough : Bool)
    → answer_if true characters enough ≡ answer_if false (picture true characters) enough
unfolding answer_if first_stray
backward_answer characters enough =
    ap₂ (answer_to enough) (sym (length_picture true characters)) (sym (picture_forward (picture true characters)))

backward_data : (characters : List ℕ) → read_data true characters ≡ read_data false (picture true characters)
unfolding read_data
backward_data characters =
    ap₂ (λ (count : ℕ) (l : List ℕ). judged_data (count - checks) l) (sym (length_picture true characters))
    (sym (picture_forward (picture true characters)))

pub turned_if : (backward : Bool) (characters : List ℕ) (enough : Bool)
    → answer_if (not backward) (picture true characters) enough ≡ answer_if backward characters enough
turned_if true characters enough = sym (backward_answer characters enough)
turned_if false characters enough =
    backward_answer (picture true characters) enough ∙ ap (λ (l : List ℕ). answer_if false l enough) (picture_twice true characters)

pub turned_answer : (backward : Bool) (characters : List ℕ) (space : ℕ)
    → read_answer (not backward) (picture true characters) space ≡ read_answer backward characters space
unfolding read_answer
turned_answer backward characters space =
    ap (λ (count : ℕ). answer_if (not backward) (picture true characters) (leb (count - checks) space)) (length_picture true characters)
    ∙ turned_if backward characters (leb (length characters - checks) space)

pub turned_data : (backward : Bool) (characters : List ℕ) → read_data (not backward) (picture true characters) ≡ read_data backward characters
turned_data true characters = sym (backward_data characters)
turned_data false characters = backward_data (picture true characters) ∙ ap (read_data false) (picture_twice true characters)
