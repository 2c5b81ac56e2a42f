-- What reading a 6250 record answers (document 01, "Where a call is turned down", from top to bottom), and the data.
-- Assumes nothing.
use Rattle.std.specs.Prelude.{ℕ, ◌-◌, ◌*◌, Bool, cond, not, ◌&&◌, ◌||◌, List, ◌∷◌, eqb, leb, ltb, length, get_or, take}
use Rattle.std.specs.Int.Count.{ones}
use Rattle.indexed.specs.List.{tabulate, blocks, first_below, total}
use Rattle.indexed.specs.Test.{all_below}
use Rattle.register.specs.Counts.{bit_counts}
use Rattle.answer.specs.Answer.{Answer, delivered, refused_for}
use Rattle.answer.specs.declared.Reason.TheVariants.{Length, Space, StrayBits, Padding}
use Rattle.rectangular.specs.Constants.{tracks, numbers_per_group, bytes_per_group, most_map, most_padding, most_groups}
use Rattle.rectangular.specs.Correction.{Judgement, changed_map}
use Rattle.record6250.specs.Group.{judged_group, is_corrected, reason_of, right_bytes, right_words}
use Rattle.record6250.specs.Picture.{group_lent, group_read, map_read}
use Rattle.record6250.specs.Tape.{stray_numbers}

-- 1 to 586 groups, with the numbers of a group and one map for each
unfoldable pub lengths_suit : ℕ → ℕ → Bool
lengths_suit words maps = (ltb 0 maps && leb maps most_groups) && eqb words (numbers_per_group * maps)

-- the space that reading so many groups needs: for all bytes but the last, which counts the padding
abbrev pub space_for : ℕ → ℕ
space_for groups = bytes_per_group * groups - 1

-- the padding rule, of the corrected bytes: the last is not above 6, and as many bytes before it as it says are zero
unfoldable pub last_byte : List ℕ → ℕ
last_byte bytes = get_or bytes (length bytes - 1) 0

unfoldable pub padding_suits : List ℕ → Bool
padding_suits bytes = leb (last_byte bytes) most_padding && all_below (last_byte bytes) (λ k. eqb (get_or bytes (length bytes - 2 - k) 0) 0)

-- what stands before the padding
unfoldable pub unpadded : List ℕ → List ℕ
unpadded bytes = take (length bytes - 1 - last_byte bytes) bytes

module _ (backward : Bool) (words maps : List ℕ) where
  -- group g: its numbers as they were lent, its words, its map, its judgement, and the tracks whose words differ from those of the group
  -- that fits
  unfoldable pub read_numbers : ℕ → List ℕ
  read_numbers g = group_lent backward (length maps) words g

  unfoldable pub read_group : ℕ → List ℕ
  read_group g = group_read backward (length maps) words g

  unfoldable pub read_map : ℕ → ℕ
  read_map g = map_read backward (length maps) maps g

  unfoldable pub judgement : ℕ → Judgement
  judgement g = judged_group (read_group g) (read_map g)

  unfoldable pub changed_tracks : ℕ → ℕ
  changed_tracks g = changed_map tracks (read_group g) (right_words (judgement g))

  -- a bit beyond its width, in one of the group's numbers or in its map
  unfoldable pub stray_at : ℕ → Bool
  stray_at g = stray_numbers (read_numbers g) || ltb most_map (read_map g)

  -- the first group with a stray bit, and the first that no group of the code fits; or the number of groups
  unfoldable pub first_stray : ℕ
  first_stray = first_below (length maps) stray_at

  unfoldable pub first_unfit : ℕ
  first_unfit = first_below (length maps) (λ g. not (is_corrected (judgement g)))

  -- the bytes of all groups, and the data among them
  unfoldable pub read_body : List ℕ
  read_body = blocks (length maps) (λ g. right_bytes (judgement g))

  unfoldable pub read_data : List ℕ
  read_data = unpadded read_body

  -- the tracks that are changed in each group, and how many words of the reading differ from the record
  unfoldable pub changed_maps : List ℕ
  changed_maps = tabulate (length maps) changed_tracks

  unfoldable pub changes : ℕ
  changes = total (length maps) (λ g. ones (changed_tracks g))

  -- and how many of each track, track 0 first (document 02, "2.7": "nine counts of changed words or characters, one an algebraic track")
  unfoldable pub track_changes : List ℕ
  track_changes = bit_counts tracks changed_maps

  -- the answer, once lengths, space and stray bits have passed
  unfoldable pub judged_answer : Answer
  judged_answer =
      cond (ltb first_unfit (length maps)) (refused_for (reason_of (judgement first_unfit)) first_unfit)
      (cond (padding_suits read_body) (delivered (length read_data ∷ changes ∷ track_changes)) (refused_for Padding 0))

  -- the answer over whether there is space enough, which is each call's own to say
  unfoldable pub answer_if : Bool → Answer
  answer_if enough =
      cond (lengths_suit (length words) (length maps))
      (cond enough
      (cond (ltb first_stray (length maps)) (refused_for StrayBits first_stray) judged_answer)
      (refused_for Space 0))
      (refused_for Length 0)

  unfoldable pub read_answer : ℕ → Answer
  read_answer space = answer_if (leb (space_for (length maps)) space)
