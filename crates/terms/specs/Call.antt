-- The calls of the library, each with what it brings, what it answers and what it stores.
-- Assumes nothing.
use Rattle.std.specs.Prelude.{Bool, cond, List, [], ℕ, suc, eqb, length}
use Rattle.answer.specs.Answer.{Answer, number_of}
use Rattle.answer.specs.declared.Reason.TheVariants.{CardContent}
use Rattle.copy800.specs.Copy.{copied_record, copy_answer}
use Rattle.rectangular.specs.Constants.{tracks}
use Rattle.record6250.specs.Written as six
use Rattle.record800.specs.Written as eight
use Rattle.sense_log.specs.Back.{read_log_answer, maps_of}
use Rattle.sense_log.specs.Written.{log_answer, reading_log}
use Rattle.track_order.specs.declared.Toward.{Toward}
use Rattle.track_order.specs.Moved.{card_words_answer, card_map_answer, inverse_answer}
use Rattle.track_order.specs.Order.{standard_card, moved_words, moved_map}
use Rattle.terms.specs.Reading.{Density, bpi6250, bpi800, Reading, at6250, at800, written_record, read_answer, read_data}

-- data are written, a reading is read; the log of a 6250 reading, forward or backward, is written, and one is read back with its group count
-- (document 02, request 2.1); nine words or a pointer map are moved toward an order by a card, and a card is inverted (request 2.4); an 800
-- reading, forward or backward, is copied as a 6250 record (request 2.6)
pub data Call : Type 0 where
  write : Density → List ℕ → Call
  read : Reading → Call
  log : Bool → List ℕ → List ℕ → Call
  read_log : ℕ → List ℕ → Call
  move_words : Toward → List ℕ → List ℕ → Call
  move_map : Toward → List ℕ → ℕ → Call
  invert_card : List ℕ → Call
  copy : Bool → List ℕ → Call

-- the calls without a card move by the standard one
abbrev pub standard_words : Toward → List ℕ → Call
standard_words toward source = move_words toward standard_card source

abbrev pub standard_map : Toward → ℕ → Call
standard_map toward m = move_map toward standard_card m

-- the answer with so much space in the output
unfoldable pub answer_to : Call → ℕ → Answer
answer_to (write bpi6250 bytes) space = six.write_answer (length bytes) space
answer_to (write bpi800 bytes) space = eight.write_answer (length bytes) space
answer_to (read r) space = read_answer r space
answer_to (log backward words maps) space = log_answer backward words maps space
answer_to (read_log groups bytes) space = read_log_answer groups bytes space
answer_to (move_words toward card source) space = card_words_answer card source space
answer_to (move_map toward card m) space = card_map_answer card (moved_map toward card) m
answer_to (invert_card card) space = inverse_answer card
answer_to (copy backward characters) space = copy_answer backward characters space

-- the result that a delivery stores; a moved map and an inverse card are told and not stored
unfoldable pub result_of : Call → List ℕ
result_of (write d bytes) = written_record d bytes
result_of (read r) = read_data r
result_of (log backward words maps) = reading_log backward words maps
result_of (read_log groups bytes) = maps_of groups bytes
result_of (move_words toward card source) = moved_words toward card source
result_of (move_map toward card m) = []
result_of (invert_card card) = []
result_of (copy backward characters) = copied_record backward characters

-- places below this bound: a refusal by 11 tells a physical track, 1 to 9, and one by another number something else
unfoldable pub card_places : ℕ → ℕ → ℕ
card_places others number = cond (eqb number (number_of CardContent)) (suc tracks) others

-- how many groups, characters or words a call brings: the place of a refusal by this number is one of them, or 0, or by 11 a track
unfoldable pub places : Call → ℕ → ℕ
places (write d bytes) number = 0
places (read (at6250 backward words maps)) number = length maps
places (read (at800 backward characters)) number = length characters
places (log backward words maps) number = length maps
places (read_log groups bytes) number = 0
places (move_words toward card source) number = card_places (length source) number
places (move_map toward card m) number = card_places 0 number
places (invert_card card) number = card_places 0 number
places (copy backward characters) number = length characters
