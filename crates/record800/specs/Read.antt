-- What reading an 800 record answers (document 01, "Where a call is turned down", from top to bottom), and the data.
-- Assumes nothing.
use Rattle.std.specs.Prelude.{ℕ, ◌+◌, ◌-◌, ◌*◌, ◌%◌, ◌^◌, Bool, cond, ◌&&◌, List, [], ◌∷◌, eqb, leb, ltb, length, get_or}
use Rattle.indexed.specs.List.{tabulate, below, first_below, keep, total}
use Rattle.slices.specs.Turned.{turned_place}
use Rattle.register.specs.Parity.{parity}
use Rattle.register.specs.Shift.{shifts}
use Rattle.register.specs.Sum.{xor_sum}
use Rattle.register.specs.Xor.{◌⊕◌}
use Rattle.answer.specs.Answer.{Answer, delivered, refused_for}
use Rattle.slices.specs.Above.{first_above}
use Rattle.answer.specs.declared.Reason.TheVariants.{Length, Space, StrayBits, NoRecord, SeveralRecords}
use Rattle.cyclic.specs.Constants.{feedback, offset, tracks, most_character, least_data, most_data, checks}
use Rattle.record800.specs.Record.{check_sum}

-- the forward picture: backward, the characters come last first, bits unchanged
unfoldable pub picture : Bool → List ℕ → List ℕ
picture backward characters = tabulate (length characters) (λ k. get_or characters (turned_place backward (length characters) k) 0)

-- the changes of each track, track 0 first: they are all in the corrected one (document 02, "2.7": "For 800 only the mended track's count can
-- be above zero")
unfoldable pub track_changes : ℕ → ℕ → List ℕ
track_changes track changes = tabulate tracks (λ t. cond (eqb t track) changes 0)

-- what a delivery tells: n, the corrected track, how many characters differ, and how many in each track
abbrev pub figures_of : ℕ → ℕ → ℕ → List ℕ
figures_of n track changes = n ∷ track ∷ changes ∷ track_changes track changes

-- of n data characters, the check character and the longitudinal one
module _ (n : ℕ) (characters : List ℕ) where
  -- The parity that a written character has: odd, but for the check character, at place n, which has even parity if n is odd.
  unfoldable pub expected_parity : ℕ → ℕ
  expected_parity k = cond (eqb k n) ((n + 1) % 2) 1

  -- 1 if the character's parity is wrong, else 0
  unfoldable pub wrong : ℕ → ℕ
  wrong k = parity (get_or characters k 0) ⊕ expected_parity k

  -- what the check register holds, all but the longitudinal character entered; and E, the sum of X^i over the wrong ones
  unfoldable pub check_read : ℕ
  check_read = check_sum (n + 1) (λ k. get_or characters k 0)

  unfoldable pub error_pattern : ℕ
  error_pattern = check_sum (n + 1) wrong

  -- the exclusive-or of all characters, and the parity of the number of wrong ones
  unfoldable pub longitudinal_read : ℕ
  longitudinal_read = xor_sum (n + checks) (λ k. get_or characters k 0)

  unfoldable pub wrong_parity : ℕ
  wrong_parity = xor_sum (n + checks) wrong

  unfoldable pub wrong_count : ℕ
  wrong_count = total (n + checks) wrong

  -- A written record that differs in track j only has bit j changed in the wrong characters, and no other: the candidate.
  unfoldable pub candidate : ℕ → ℕ → ℕ
  candidate j k = get_or characters k 0 ⊕ wrong k * 2 ^ j

  -- it is a written record if its check character and its longitudinal character hold
  unfoldable pub holds : ℕ → Bool
  holds j = eqb (check_read ⊕ shifts 9 feedback j error_pattern) offset && eqb longitudinal_read (wrong_parity * 2 ^ j)

  -- by the tracks of which the candidate is a written record
  unfoldable pub one_of : List ℕ → Answer
  one_of [] = refused_for NoRecord 0
  one_of (j ∷ []) = delivered (figures_of n j wrong_count)
  one_of (i ∷ j ∷ more) = refused_for SeveralRecords 0

  -- with no wrong parity the nine candidates are the reading itself, and 9 is told for the track; otherwise they are nine different ones
  unfoldable pub judged_answer : Answer
  judged_answer =
      cond (eqb wrong_count 0) (cond (holds 0) (delivered (figures_of n tracks 0)) (refused_for NoRecord 0)) (one_of (keep holds (below tracks)))

  unfoldable pub judged_data : List ℕ
  judged_data = tabulate n (λ k. candidate (first_below tracks holds) k % 256)

-- the space that reading so many characters needs: for all but the two check characters
abbrev pub space_for : ℕ → ℕ
space_for count = count - checks

-- 3 to 2,050 characters
unfoldable pub length_suits : ℕ → Bool
length_suits count = leb (least_data + checks) count && leb count (most_data + checks)

unfoldable pub first_stray : Bool → List ℕ → ℕ
first_stray backward characters = first_above most_character (picture backward characters)

unfoldable pub read_data : Bool → List ℕ → List ℕ
read_data backward characters = judged_data (length characters - checks) (picture backward characters)

-- The answer, if space is enough or not: a call says what that is of its output.
unfoldable pub answer_if : Bool → List ℕ → Bool → Answer
answer_if backward characters enough =
    cond (length_suits (length characters))
    (cond enough
    (cond (ltb (first_stray backward characters) (length characters)) (refused_for StrayBits (first_stray backward characters))
    (judged_answer (length characters - checks) (picture backward characters)))
    (refused_for Space 0))
    (refused_for Length 0)

-- a reader's output has space for the data characters
unfoldable pub read_answer : Bool → List ℕ → ℕ → Answer
read_answer backward characters space = answer_if backward characters (leb (space_for (length characters)) space)
