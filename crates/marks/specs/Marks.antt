-- The marks of a picture: what is shown of one track in one column, a group at 6250 and a run of 32 characters at 800.
-- Assumes nothing.
use Rattle.std.specs.Prelude.{ℕ, ◌+◌, ◌-◌, ◌*◌, ◌/◌, ◌%◌, min, Bool, false, cond, not, ◌&&◌, List, Option, None, Some, eqb, leb, length, get_or}
use Rattle.indexed.specs.List.{tabulate}
use Rattle.slices.specs.Turned.{turned_place}
use Rattle.indexed.specs.Test.{all_below}
use Rattle.register.specs.Bit.{bit}
use Rattle.rectangular.specs.Constants.{tracks}
use Rattle.group_code.specs.Word.{legal_word}
use Rattle.record6250.specs.Picture.{group_read, map_read}
use Rattle.marks.specs.declared.marks.Pointer.{Pointer}
use Rattle.marks.specs.declared.marks.Pointer.TheVariants.{Drive, Word}
use Rattle.marks.specs.declared.marks.View.{View}

-- in a column that was not refused: C pointed by the drive and corrected, p pointed and right, i an illegal word, which points
-- itself, c corrected, and a dot as read
abbrev pub mark_of : Option Pointer → Bool → ℕ
mark_of (Some Drive) changed = cond changed 67 112
mark_of (Some Word) changed = 105
mark_of None changed = cond changed 99 46

-- x in the refused column
abbrev pub marked : Option ℕ → ℕ → ℕ → ℕ
marked (Some refused) column mark = cond (eqb refused column) 120 mark
marked None column mark = mark

abbrev pub is_illegal : ℕ → Bool
is_illegal word = not (legal_word word)

-- the drive points a track by its bit of the group's map, and goes before an illegal word
abbrev pub pointer_of : ℕ → ℕ → ℕ → Option Pointer
pointer_of map word track = cond (eqb (bit track map) 1) (Some Drive) (cond (is_illegal word) (Some Word) None)

-- a word or a bit is corrected if the record that was delivered has another; a refusal corrects nothing
abbrev pub is_changed : Bool → ℕ → ℕ → Bool
is_changed delivered read right = delivered && not (eqb read right)

-- the word of a track in group g of so many, as it stands in the forward picture
unfoldable pub word_read : Bool → List ℕ → ℕ → ℕ → ℕ → ℕ
word_read backward words groups g track = get_or (group_read backward groups words g) track 0

-- track of group g, the words that were delivered beside it
unfoldable pub group_mark : View → List ℕ → List ℕ → List ℕ → ℕ → ℕ → ℕ
group_mark view words maps right g track =
    let word = word_read view.backward words (length maps) g track in
    marked view.refused g
    (mark_of (pointer_of (map_read view.backward (length maps) maps g) word track)
    (is_changed view.delivered word (word_read false right (length maps) g track)))

-- all marks, one for each track in each column
unfoldable pub group_marks : View → List ℕ → List ℕ → List ℕ → List ℕ
group_marks view words maps right = tabulate (tracks * length maps) (λ i. group_mark view words maps right (i / tracks) (i % tracks))

-- a character of an 800 reading in its forward picture
unfoldable pub character_read : Bool → List ℕ → ℕ → ℕ
character_read backward characters k = get_or characters (turned_place backward (length characters) k) 0

-- how many characters a run has that begins at an index: 32, or what is left
abbrev pub run_length : ℕ → ℕ → ℕ
run_length count from = min 32 (count - from)

-- whether a track is as it was delivered, in a character and in all characters of a run
unfoldable pub character_right : Bool → List ℕ → List ℕ → ℕ → ℕ → Bool
character_right backward characters right track k = eqb (bit track (character_read backward characters k)) (bit track (get_or right k 0))

unfoldable pub run_right : Bool → List ℕ → List ℕ → ℕ → ℕ → Bool
run_right backward characters right track from =
    all_below (run_length (length characters) from) (λ k. character_right backward characters right track (from + k))

-- a track in a run; the drive does not point at 800, and no character is illegal
unfoldable pub run_mark : View → List ℕ → List ℕ → ℕ → ℕ → ℕ
run_mark view characters right column track =
    marked view.refused column (mark_of None (view.delivered && not (run_right view.backward characters right track (32 * column))))

unfoldable pub run_marks : View → List ℕ → List ℕ → ℕ → List ℕ
run_marks view characters right columns = tabulate (tracks * columns) (λ i. run_mark view characters right (i / tracks) (i % tracks))

-- the refusals 3, 4 and 5 have a place that is a group or a character; those of any other number refuse no column
abbrev pub refused_column : ℕ → ℕ → Option ℕ
refused_column number column = cond (leb 3 number && leb number 5) (Some column) None
