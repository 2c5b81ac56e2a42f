-- The bench readings that document 01 marks with a star, as one table, and logs and copies beside it; word 8 is document 02's ("2.2"), which adds the last
-- 6250 reading, and so is the answer where one track is wrong and another pointed ("2.3") and the changes of each track ("2.7"). Each call is lent an output of ten numbers, so that
-- a row also says what is kept: behind a result, and after a refusal all of it.
-- Assumes nothing.
use Rattle.std.specs.Prelude.{ℕ, true, false, List, [], ◌∷◌, ◌++◌, map, length, drop}
use Rattle.answer.specs.Answer.{Answer, delivered, refused, output_after}
use Rattle.record6250.specs.Picture.{turned_numbers}
use Rattle.record6250.specs.Record.{body}
use Rattle.record800.specs.Read.{picture}
use Rattle.record800.specs.Record.{character_of, check_character}
use Rattle.cyclic.specs.Constants.{offset}
use Rattle.register.specs.Xor.{◌⊕◌}
use Rattle.terms.specs.Call.{Call, write, read, log, read_log, copy, answer_to, result_of}
use Rattle.terms.specs.Reading.{bpi6250, bpi800, Reading, at6250, at800, turned}

-- what is asked of the definitions: the body that is made of data, the check character before G2 is added, or a call
pub data Asked : Type 0 where
  body6250 unaltered800 : List ℕ → Asked
  called : Call → Asked

-- the output that is lent
unfoldable pub lent : List ℕ
lent = 101 ∷ 102 ∷ 103 ∷ 104 ∷ 105 ∷ 106 ∷ 107 ∷ 108 ∷ 109 ∷ 110 ∷ []

-- the answer, and the output afterwards; what is no call answers nothing, for which a delivery without figures stands
unfoldable pub answered : Asked → Answer
answered (body6250 bytes) = delivered []
answered (unaltered800 bytes) = delivered []
answered (called call) = answer_to call (length lent)

unfoldable pub leaves : Asked → List ℕ
leaves (body6250 bytes) = body bytes
leaves (unaltered800 bytes) = (check_character (map character_of bytes) ⊕ offset) ∷ []
leaves (called call) = output_after (answer_to call (length lent)) (result_of call) lent

-- a row: what is asked, and the answer and the output that the papers prescribe
pub record Row : Type 0 where
  pub asked : Asked
  pub answer : Answer
  pub output : List ℕ

-- a row of a call: its answer, and the front of its output, empty after a refusal, behind which what was lent is kept
unfoldable pub row : Call → Answer → List ℕ → Row
row call answer front = record { asked = called call; answer = answer; output = front ++ drop (length front) lent }

-- and one of what is made of data, where no output is lent
unfoldable pub made : Asked → List ℕ → Row
made asked output = record { asked = asked; answer = delivered []; output = output }

-- what is written
unfoldable pub written : List Row
written =
    made (body6250 []) (0 ∷ 0 ∷ 0 ∷ 0 ∷ 0 ∷ 0 ∷ 6 ∷ [])
    ∷ row (write bpi6250 []) (delivered (1 ∷ [])) (825 ∷ 818 ∷ 819 ∷ 827 ∷ 825 ∷ 825 ∷ 825 ∷ 825 ∷ 495 ∷ [])
    ∷ row (write bpi6250 (0x01 ∷ [])) (delivered (1 ∷ [])) (850 ∷ 827 ∷ 818 ∷ 827 ∷ 825 ∷ 825 ∷ 825 ∷ 827 ∷ 750 ∷ [])
    ∷ row (write bpi800 (131 ∷ 212 ∷ 148 ∷ 248 ∷ 234 ∷ [])) (delivered (7 ∷ [])) (131 ∷ 468 ∷ 148 ∷ 248 ∷ 234 ∷ 510 ∷ 47 ∷ [])
    ∷ made (unaltered800 (131 ∷ 212 ∷ 148 ∷ 248 ∷ 234 ∷ [])) (41 ∷ [])
    ∷ []

-- what is read, forward: the answer, and the front of the output
pub record Read : Type 0 where
  pub reading : Reading
  pub answer : Answer
  pub front : List ℕ

-- one group with its pointer map, and characters
unfoldable pub group6250 : List ℕ → ℕ → Answer → List ℕ → Read
group6250 words pointers answer front = record { reading = at6250 false words (pointers ∷ []); answer = answer; front = front }

unfoldable pub characters800 : List ℕ → Answer → List ℕ → Read
characters800 characters answer front = record { reading = at800 false characters; answer = answer; front = front }

-- the changes of each track (document 02, "2.7"): none, or one in track 0, 5 or 8, or one in each of tracks 0 and 8
abbrev pub none : List ℕ
none = 0 ∷ 0 ∷ 0 ∷ 0 ∷ 0 ∷ 0 ∷ 0 ∷ 0 ∷ 0 ∷ []

abbrev pub in0 : List ℕ
in0 = 1 ∷ 0 ∷ 0 ∷ 0 ∷ 0 ∷ 0 ∷ 0 ∷ 0 ∷ 0 ∷ []

abbrev pub in5 : List ℕ
in5 = 0 ∷ 0 ∷ 0 ∷ 0 ∷ 0 ∷ 1 ∷ 0 ∷ 0 ∷ 0 ∷ []

abbrev pub in8 : List ℕ
in8 = 0 ∷ 0 ∷ 0 ∷ 0 ∷ 0 ∷ 0 ∷ 0 ∷ 0 ∷ 1 ∷ []

abbrev pub in0and8 : List ℕ
in0and8 = 1 ∷ 0 ∷ 0 ∷ 0 ∷ 0 ∷ 0 ∷ 0 ∷ 0 ∷ 1 ∷ []

unfoldable pub readings : List Read
readings =
    group6250 (825 ∷ 827 ∷ 818 ∷ 827 ∷ 825 ∷ 825 ∷ 825 ∷ 827 ∷ 750 ∷ []) 0 (delivered (1 ∷ 1 ∷ in0)) (0x01 ∷ [])
    ∷ group6250 (825 ∷ 827 ∷ 818 ∷ 827 ∷ 825 ∷ 825 ∷ 825 ∷ 827 ∷ 825 ∷ []) 0 (refused 5 0) []
    ∷ group6250 (825 ∷ 827 ∷ 818 ∷ 827 ∷ 825 ∷ 825 ∷ 825 ∷ 827 ∷ 825 ∷ []) 257 (delivered (1 ∷ 2 ∷ in0and8)) (0x01 ∷ [])
    ∷ group6250 (0 ∷ 827 ∷ 818 ∷ 827 ∷ 825 ∷ 825 ∷ 825 ∷ 827 ∷ 750 ∷ []) 0 (delivered (1 ∷ 1 ∷ in0)) (0x01 ∷ [])
    ∷ group6250 (0 ∷ 0 ∷ 0 ∷ 827 ∷ 825 ∷ 825 ∷ 825 ∷ 827 ∷ 750 ∷ []) 0 (refused 4 0) []
    ∷ group6250 (850 ∷ 827 ∷ 818 ∷ 827 ∷ 825 ∷ 825 ∷ 825 ∷ 827 ∷ 750 ∷ []) 8 (delivered (1 ∷ 0 ∷ none)) (0x01 ∷ [])
    ∷ group6250 (825 ∷ 827 ∷ 818 ∷ 827 ∷ 825 ∷ 825 ∷ 825 ∷ 827 ∷ 750 ∷ []) 8 (delivered (1 ∷ 1 ∷ in0)) (0x01 ∷ [])
    ∷ group6250 (818 ∷ 819 ∷ 819 ∷ 827 ∷ 825 ∷ 825 ∷ 825 ∷ 825 ∷ 510 ∷ []) 0 (refused 6 0) []
    ∷ group6250 (825 ∷ 818 ∷ 819 ∷ 827 ∷ 825 ∷ 825 ∷ 825 ∷ 825 ∷ 825 ∷ []) 0 (delivered (0 ∷ 1 ∷ in8)) []
    ∷ characters800 (131 ∷ 468 ∷ 148 ∷ 248 ∷ 202 ∷ 510 ∷ 47 ∷ []) (delivered (5 ∷ 5 ∷ 1 ∷ in5)) (131 ∷ 212 ∷ 148 ∷ 248 ∷ 234 ∷ [])
    ∷ characters800 (131 ∷ 468 ∷ 148 ∷ 248 ∷ 234 ∷ 510 ∷ 46 ∷ []) (delivered (5 ∷ 0 ∷ 1 ∷ in0)) (131 ∷ 212 ∷ 148 ∷ 248 ∷ 234 ∷ [])
    ∷ characters800 (128 ∷ 468 ∷ 148 ∷ 248 ∷ 234 ∷ 510 ∷ 47 ∷ []) (refused 7 0) []
    ∷ []

-- the readings as they stand, and the same turned: answer and output are one
unfoldable pub row_of : (Reading → Reading) → Read → Row
row_of turn r = row (read (turn r.reading)) r.answer r.front

unfoldable pub starred : List Row
starred = written ++ map (row_of (λ r. r)) readings ++ map (row_of turned) readings

-- The logs of some of these readings, forward and as they pass the head the other way, and logs read back (document 02, request 2.1). The
-- readings are document 01's, and the answers follow from the request's words; none has a star.
unfoldable pub log_rows : List ℕ → ℕ → Answer → List ℕ → List Row
log_rows words pointers answer front =
    row (log false words (pointers ∷ [])) answer front ∷ row (log true (turned_numbers words) (pointers ∷ [])) answer front ∷ []

unfoldable pub logs : List Row
logs =
    log_rows (825 ∷ 827 ∷ 818 ∷ 827 ∷ 825 ∷ 825 ∷ 825 ∷ 827 ∷ 750 ∷ []) 0 (delivered (3 ∷ [])) (1 ∷ 1 ∷ 0 ∷ [])
    ++ log_rows (825 ∷ 827 ∷ 818 ∷ 827 ∷ 825 ∷ 825 ∷ 825 ∷ 827 ∷ 825 ∷ []) 257 (delivered (3 ∷ [])) (1 ∷ 1 ∷ 1 ∷ [])
    ++ log_rows (850 ∷ 827 ∷ 818 ∷ 827 ∷ 825 ∷ 825 ∷ 825 ∷ 827 ∷ 750 ∷ []) 8 (delivered (1 ∷ [])) (0 ∷ [])
    ++ log_rows (825 ∷ 827 ∷ 818 ∷ 827 ∷ 825 ∷ 825 ∷ 825 ∷ 827 ∷ 750 ∷ []) 8 (delivered (3 ∷ [])) (1 ∷ 1 ∷ 0 ∷ [])
    ++ log_rows (825 ∷ 827 ∷ 818 ∷ 827 ∷ 825 ∷ 825 ∷ 825 ∷ 827 ∷ 825 ∷ []) 0 (refused 5 0) []
    ++ log_rows (818 ∷ 819 ∷ 819 ∷ 827 ∷ 825 ∷ 825 ∷ 825 ∷ 825 ∷ 510 ∷ []) 0 (refused 6 0) []
    ++ log_rows (825 ∷ 818 ∷ 819 ∷ 827 ∷ 825 ∷ 825 ∷ 825 ∷ 825 ∷ 825 ∷ []) 0 (delivered (3 ∷ [])) (1 ∷ 0 ∷ 1 ∷ [])
    ++ row (read_log 1 (1 ∷ 1 ∷ 1 ∷ [])) (delivered in0and8) (257 ∷ [])
    ∷ row (read_log 9 (128 ∷ 1 ∷ 1 ∷ 0 ∷ 255 ∷ 1 ∷ [])) (delivered (2 ∷ 1 ∷ 1 ∷ 1 ∷ 1 ∷ 1 ∷ 1 ∷ 1 ∷ 1 ∷ []))
    (0 ∷ 0 ∷ 0 ∷ 0 ∷ 0 ∷ 0 ∷ 0 ∷ 1 ∷ 511 ∷ [])
    ∷ row (read_log 8 (0 ∷ [])) (delivered none) (0 ∷ 0 ∷ 0 ∷ 0 ∷ 0 ∷ 0 ∷ 0 ∷ 0 ∷ [])
    ∷ row (read_log 11 (0 ∷ 0 ∷ [])) (refused 2 0) []
    ∷ row (read_log 0 []) (refused 9 0) []
    ∷ row (read_log 9 (0 ∷ 2 ∷ 1 ∷ 0 ∷ [])) (refused 9 0) []
    ∷ row (read_log 9 (0 ∷ 2 ∷ [])) (refused 10 0) []
    ∷ row (read_log 1 (1 ∷ 0 ∷ 0 ∷ [])) (refused 10 0) []
    ∷ row (read_log 1 (1 ∷ 0 ∷ 2 ∷ [])) (refused 10 0) []
    ∷ []

-- The 800 readings among these copied as 6250 records, forward and as they pass the head the other way (document 02, request 2.6), with one byte
-- 0, a stray character, and a stray character where the record would not fit into the ten words that are lent. Their answers follow from the
-- request's words; none has a star.
unfoldable pub copy_rows : List ℕ → Answer → List ℕ → List Row
copy_rows characters answer front =
    row (copy false characters) answer front ∷ row (copy true (picture true characters)) answer front ∷ []

unfoldable pub copies : List Row
copies =
    copy_rows (131 ∷ 468 ∷ 148 ∷ 248 ∷ 202 ∷ 510 ∷ 47 ∷ []) (delivered (5 ∷ 5 ∷ 1 ∷ in5 ++ (1 ∷ [])))
    (851 ∷ 858 ∷ 731 ∷ 873 ∷ 763 ∷ 890 ∷ 698 ∷ 506 ∷ 949 ∷ [])
    ++ copy_rows (131 ∷ 468 ∷ 148 ∷ 248 ∷ 234 ∷ 510 ∷ 46 ∷ []) (delivered (5 ∷ 0 ∷ 1 ∷ in0 ++ (1 ∷ [])))
    (851 ∷ 858 ∷ 731 ∷ 873 ∷ 763 ∷ 890 ∷ 698 ∷ 506 ∷ 949 ∷ [])
    ++ copy_rows (256 ∷ 430 ∷ 174 ∷ []) (delivered (1 ∷ 9 ∷ 0 ∷ none ++ (1 ∷ []))) (818 ∷ 827 ∷ 818 ∷ 827 ∷ 825 ∷ 825 ∷ 825 ∷ 825 ∷ 495 ∷ [])
    ++ copy_rows (128 ∷ 468 ∷ 148 ∷ 248 ∷ 234 ∷ 510 ∷ 47 ∷ []) (refused 7 0) []
    ++ copy_rows (256 ∷ 512 ∷ 174 ∷ []) (refused 3 1) []
    ++ copy_rows (600 ∷ 412 ∷ 328 ∷ 458 ∷ 214 ∷ 52 ∷ 296 ∷ 456 ∷ 13 ∷ []) (refused 2 0) []
    ++ copy_rows (1 ∷ 2 ∷ []) (refused 1 0) []

-- all rows that are computed
unfoldable pub computed : List Row
computed = starred ++ logs ++ copies
