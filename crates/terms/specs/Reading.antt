-- Readings and written records, at both densities and in both directions: what the notice's terms speak of ("reading", "written
-- record" and "fits" are document 01's terms).
-- Assumes nothing.
use Rattle.std.specs.Prelude.{Bool, true, false, not, List, ◌∷◌, ◌≡◌, ℕ, ◌/◌, ◌≤◌, length, get_or, drop, replicate}
use Rattle.answer.specs.Answer.{Answer}
use Rattle.rectangular.specs.Constants.{tracks, numbers_per_group}
use Rattle.record6250.specs.Fits as six
use Rattle.record6250.specs.Picture as sixPicture
use Rattle.record6250.specs.Read as sixRead
use Rattle.record6250.specs.Record as sixRecord
use Rattle.record800.specs.Fits as eight
use Rattle.record800.specs.Read as eightRead
use Rattle.record800.specs.Record as eightRecord

pub data Density : Type 0 where
  bpi6250 bpi800 : Density

-- A reading: whether it is backward, and, at 6250, its words and a pointer map for each group, or, at 800, its characters.
pub data Reading : Type 0 where
  at6250 : Bool → List ℕ → List ℕ → Reading
  at800 : Bool → List ℕ → Reading

unfoldable pub density : Reading → Density
density (at6250 backward words maps) = bpi6250
density (at800 backward characters) = bpi800

unfoldable pub is_backward : Reading → Bool
is_backward (at6250 backward words maps) = backward
is_backward (at800 backward characters) = backward

-- the words or characters that were read
unfoldable pub received : Reading → List ℕ
received (at6250 backward words maps) = words
received (at800 backward characters) = characters

-- ---- data and their written record

-- data within the limits
unfoldable pub IsData : Density → List ℕ → Type 0
IsData bpi6250 bytes = six.IsData bytes
IsData bpi800 bytes = eight.IsData bytes

-- the words or characters of their written record
unfoldable pub written_record : Density → List ℕ → List ℕ
written_record bpi6250 bytes = sixRecord.written_record bytes
written_record bpi800 bytes = eightRecord.written_record bytes

-- ---- how a reading passes the head

-- the same record as it passes the head the other way (document 01, "Backward")
unfoldable pub turned : Reading → Reading
turned (at6250 backward words maps) = at6250 (not backward) (sixPicture.turned_numbers words) (sixPicture.picture_maps true maps)
turned (at800 backward characters) = at800 (not backward) (eightRead.picture true characters)

-- words or characters read undamaged, with no track pointed: forward, or turned, backward
unfoldable pub undamaged : Density → Bool → List ℕ → Reading
undamaged bpi6250 false words = at6250 false words (replicate (length words / numbers_per_group) 0)
undamaged bpi6250 true words = turned (at6250 false words (replicate (length words / numbers_per_group) 0))
undamaged bpi800 false characters = at800 false characters
undamaged bpi800 true characters = turned (at800 false characters)

-- ---- what fits

-- the output has the space that a reader needs
unfoldable pub Enough : Reading → ℕ → Type 0
Enough (at6250 backward words maps) space = sixRead.space_for (length maps) ≤ space
Enough (at800 backward characters) space = eightRead.space_for (length characters) ≤ space

-- lengths, space and stray bits have passed: the first three rows of document 01's table
unfoldable pub Passes : Reading → ℕ → Type 0
Passes (at6250 backward words maps) space = six.Passes backward words maps × Enough (at6250 backward words maps) space
Passes (at800 backward characters) space = eight.Passes backward characters × Enough (at800 backward characters) space

-- the written record of these data fits the reading
unfoldable pub Fits : Reading → List ℕ → Type 0
Fits (at6250 backward words maps) bytes = six.Fits backward words maps bytes
Fits (at800 backward characters) bytes = eight.Fits backward characters bytes

-- exactly one written record fits, that of these data
pub record OneFits (r : Reading) (bytes : List ℕ) : Type 0 where
  pub fits : Fits r bytes
  pub only : (others : List ℕ) → Fits r others → others ≡ bytes

-- ---- what a delivery tells

-- of these data: their length, and the reading's differences from their record (at 800, their track and their number), also track by track
-- (document 02, "2.7")
unfoldable pub told : Reading → List ℕ → List ℕ
told (at6250 backward words maps) bytes =
    length bytes ∷ six.words_changed backward words maps bytes ∷ six.track_differences backward words maps bytes
told (at800 backward characters) bytes =
    length bytes ∷ eight.track_changed backward characters bytes ∷ eight.characters_changed backward characters bytes
    ∷ eight.track_differences backward characters bytes

-- of so many bytes with no change counted
unfoldable pub unchanged : Density → ℕ → List ℕ
unchanged bpi6250 n = n ∷ 0 ∷ replicate tracks 0
unchanged bpi800 n = n ∷ 9 ∷ 0 ∷ replicate tracks 0

-- the length, the corrected track at 800, the changes, and the changes of each track among the figures told
unfoldable pub length_told : List ℕ → ℕ
length_told figures = get_or figures 0 0

unfoldable pub track_told : List ℕ → ℕ
track_told figures = get_or figures 1 0

unfoldable pub changes_told : Density → List ℕ → ℕ
changes_told bpi6250 figures = get_or figures 1 0
changes_told bpi800 figures = get_or figures 2 0

unfoldable pub counts_told : Density → List ℕ → List ℕ
counts_told bpi6250 figures = drop 2 figures
counts_told bpi800 figures = drop 3 figures

-- ---- the readers

-- what the reader answers with so much space, and the data that it delivers: with these its contract equates what it answers and stores
unfoldable pub read_answer : Reading → ℕ → Answer
read_answer (at6250 backward words maps) space = sixRead.read_answer backward words maps space
read_answer (at800 backward characters) space = eightRead.read_answer backward characters space

unfoldable pub read_data : Reading → List ℕ
read_data (at6250 backward words maps) = sixRead.read_data backward words maps
read_data (at800 backward characters) = eightRead.read_data backward characters
