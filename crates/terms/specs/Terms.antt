-- The notice's three terms. Each is a relation between a call, the answer that was given, and the output as it stood before the call and
-- stands after it. The contracts of the calls say that they hold; here they speak of calls, readings and written records only.
-- Assumes nothing.
use Rattle.std.specs.Prelude.{Bool, true, false, cond, not, ◌⊎◌, ◌≡◌, ℕ, ◌-◌, ◌*◌, ◌<◌, ◌≤◌, eqb, length, get_or, take, drop}
use mathlib.Core.List.{List, [], ◌∷◌, ◌++◌, Memᴰ}
use Prim.{Unit}
use Rattle.indexed.specs.List.{total}
use Rattle.answer.specs.Answer.{Answer, delivered, refused, refusals, output_after}
use Rattle.copy800.specs.Copy.{copy_space, copied_record, copy_answer}
use Rattle.rectangular.specs.Constants.{tracks, numbers_per_group, most_word, most_map}
use Rattle.record6250.specs.Fits as six
use Rattle.record6250.specs.Fits.{maps_changed}
use Rattle.record6250.specs.Picture.{group_read, picture_maps, turned_numbers}
use Rattle.record6250.specs.Read.{read_group, changed_maps, track_changes}
use Rattle.record6250.specs.Record.{groups_for}
use Rattle.record800.specs.Fits as eight
use Rattle.record800.specs.Read.{picture}
use Rattle.register.specs.Bit.{bit}
use Rattle.sense_log.specs.Back.{read_log_answer, maps_of}
use Rattle.sense_log.specs.Log.{log_space, log_of, marks, track_marks}
use Rattle.sense_log.specs.Written.{log_answer, reading_log}
use Rattle.track_order.specs.declared.Toward.{Toward}
use Rattle.track_order.specs.Card.{Good, InverseCard}
use Rattle.track_order.specs.Moved.{card_words_answer, card_map_answer, inverse_answer}
use Rattle.track_order.specs.Order.{back, moved_words, moved_map}
use Rattle.terms.specs.Call.{Call, write, read, log, read_log, move_words, move_map, invert_card, copy, result_of, places}
use Rattle.terms.specs.Reading.{Density, bpi6250, bpi800, Reading, at6250, at800, density, is_backward, received, IsData, written_record, turned, undamaged, Enough, Passes, Fits, OneFits, told, unchanged, length_told, track_told, changes_told, counts_told, read_answer, read_data}

-- ---- the first term

-- "If a call brings words, characters, pointer maps or lengths of any kind, it ends in a delivery or in one of eight refusals with a
-- number and a place. A refusal changes nothing in the lent output. A delivery writes its result at the front and nothing behind it." The
-- numbers of document 02's requests "join the first term's eight".
unfoldable pub FirstTerm : Call → Answer → List ℕ → List ℕ → Type 0
FirstTerm call (delivered figures) before after =
    (length (result_of call) ≤ length before) × (after ≡ result_of call ++ drop (length (result_of call)) before)
FirstTerm call (refused number place) before after =
    Memᴰ number refusals × ((place < places call number) ⊎ (place ≡ 0)) × (after ≡ before)

-- ---- the second term

-- the front of the output of a writer that delivered: so many groups of nine words, or so many characters
unfoldable pub record_stored : Density → List ℕ → List ℕ → List ℕ
record_stored bpi6250 figures after = take (numbers_per_group * get_or figures 0 0) after
record_stored bpi800 figures after = take (get_or figures 0 0) after

-- "A written record, read undamaged, with space enough and no track pointed, gives its data with no change counted": so do these words or
-- characters, forward and backward.
abbrev pub ReadsBack : Density → List ℕ → List ℕ → Type 0
ReadsBack d stored bytes =
    (backward : Bool) (space : ℕ) → Enough (undamaged d backward stored) space
    → (read_answer (undamaged d backward stored) space ≡ delivered (unchanged d (length bytes))) × (read_data (undamaged d backward stored) ≡ bytes)

-- "What is written is what [the papers] prescribe." Of a writer: data within the limits are delivered, if there is space for their record; what stands at the front is
-- that record; and a reader, forward or backward, delivers the data from there.
pub record Writes (d : Density) (bytes : List ℕ) (answer : Answer) (before after : List ℕ) : Type 0 where
  pub is_delivered : IsData d bytes → length (written_record d bytes) ≤ length before → (figures : List ℕ) × (answer ≡ delivered figures)
  pub is_record : (figures : List ℕ) → answer ≡ delivered figures → record_stored d figures after ≡ written_record d bytes
  pub reads_back : IsData d bytes → (figures : List ℕ) → answer ≡ delivered figures → ReadsBack d (record_stored d figures after) bytes

-- Of the counts that a reader tells (document 02, request 2.7): there are nine, "one an algebraic track"; "The sum is their total"; "For 800 only
-- the mended track's count can be above zero".
pub record Counts (d : Density) (figures : List ℕ) : Type 0 where
  pub nine : length (counts_told d figures) ≡ tracks
  pub sum : total tracks (λ t. get_or (counts_told d figures) t 0) ≡ changes_told d figures
  pub one_track : d ≡ bpi800 → (t : ℕ) → t < tracks → (t ≡ track_told figures → ⊥) → get_or (counts_told d figures) t 0 ≡ 0

-- Of a reader, the same; and "A record read forward with no change, when its data are written, gives the words or characters that were read.
-- Reading backward answers as reading forward does."
pub record Reads (r : Reading) (answer : Answer) (before after : List ℕ) : Type 0 where
  pub undamaged_read : (bytes : List ℕ) → IsData (density r) bytes → r ≡ undamaged (density r) (is_backward r) (written_record (density r) bytes)
      → Enough r (length before) → (answer ≡ delivered (unchanged (density r) (length bytes))) × (after ≡ bytes ++ drop (length bytes) before)
  pub unchanged_written : is_backward r ≡ false → (figures : List ℕ) → answer ≡ delivered figures → changes_told (density r) figures ≡ 0
      → IsData (density r) (take (length_told figures) after) × (written_record (density r) (take (length_told figures) after) ≡ received r)
  pub as_turned : (answer ≡ read_answer (turned r) (length before)) × (after ≡ output_after answer (read_data (turned r)) before)
  pub counted : (figures : List ℕ) → answer ≡ delivered figures → Counts (density r) figures

-- Of a log that is written (document 02, request 2.1): what is stored, read back, is delivered with the maps of the reading's changed
-- tracks, and tells the marks of each track, "which for a reading's own log are these counts" (request 2.7), those that a reader tells of the
-- reading; and a backward reading's log is that of the same turned forward.
pub record Logs (backward : Bool) (words maps : List ℕ) (answer : Answer) (before after : List ℕ) : Type 0 where
  pub reads_back : (figures : List ℕ) → answer ≡ delivered figures → (space : ℕ) → length maps ≤ space
      → (read_log_answer (length maps) (take (length_told figures) after) space ≡ delivered (track_changes backward words maps))
      × (maps_of (length maps) (take (length_told figures) after) ≡ changed_maps backward words maps)
  pub as_counted : (figures : List ℕ) → answer ≡ delivered figures → (space : ℕ) → Enough (at6250 backward words maps) space
      → (told : List ℕ) × (read_answer (at6250 backward words maps) space ≡ delivered told) × (counts_told bpi6250 told ≡ track_changes backward words maps)
  pub as_turned : (answer ≡ log_answer (not backward) (turned_numbers words) (picture_maps true maps) (length before))
      × (after ≡ output_after answer (reading_log (not backward) (turned_numbers words) (picture_maps true maps)) before)

-- Of one that is read back: writing the maps that are delivered gives the log, so that one set of changes has one log; what is told are the
-- marks of each track in these maps, and their total is the number of marks.
pub record LogsAgain (groups : ℕ) (bytes : List ℕ) (answer : Answer) (after : List ℕ) : Type 0 where
  pub written_again : ((k : ℕ) → get_or bytes k 0 < 256) → (figures : List ℕ) → answer ≡ delivered figures → log_of (take groups after) ≡ bytes
  pub marks_told : (figures : List ℕ) → answer ≡ delivered figures
      → (figures ≡ track_marks (take groups after)) × (total tracks (λ t. get_or figures t 0) ≡ marks (take groups after))

-- Of nine words that are moved by a card (document 02, request 2.4: "moving nine words or a map out and back, unrefused, restores them under every
-- good card"): they are delivered if the card is good, the words have no stray bits and there is space, and only by a good card; and what is
-- stored, moved the other way by the same card, is delivered and gives the words.
pub record MovesWords (toward : Toward) (card source : List ℕ) (answer : Answer) (before after : List ℕ) : Type 0 where
  pub is_delivered : Good card → length source ≡ tracks → ((k : ℕ) → k < tracks → get_or source k 0 ≤ most_word) → tracks ≤ length before
      → answer ≡ delivered []
  pub by_good : (figures : List ℕ) → answer ≡ delivered figures → Good card
  pub restored : (figures : List ℕ) → answer ≡ delivered figures → (space : ℕ) → tracks ≤ space
      → (card_words_answer card (take tracks after) space ≡ delivered []) × (moved_words (back toward) card (take tracks after) ≡ source)

-- And so of a map, which is told.
pub record MovesMap (toward : Toward) (card : List ℕ) (m : ℕ) (answer : Answer) : Type 0 where
  pub is_delivered : Good card → m ≤ most_map → answer ≡ delivered (moved_map toward card m ∷ [])
  pub by_good : (figures : List ℕ) → answer ≡ delivered figures → Good card
  pub restored : (figures : List ℕ) → answer ≡ delivered figures
      → card_map_answer card (moved_map (back toward) card) (get_or figures 0 0) ≡ delivered (m ∷ [])

-- Of a card that is inverted ("each good card has one inverse card"): a good card is delivered, and no other; what is told is an inverse card of it,
-- no other list is, and its own inverse is the card.
pub record Inverts (card : List ℕ) (answer : Answer) : Type 0 where
  pub is_delivered : Good card → (figures : List ℕ) × (answer ≡ delivered figures)
  pub by_good : (figures : List ℕ) → answer ≡ delivered figures → Good card
  pub is_inverse : (figures : List ℕ) → answer ≡ delivered figures → InverseCard card figures
  pub only_inverse : (figures other : List ℕ) → answer ≡ delivered figures → InverseCard card other → other ≡ figures
  pub inverted_back : (figures : List ℕ) → answer ≡ delivered figures → inverse_answer figures ≡ delivered card

-- the groups told of a copy, the figures of the reading in front of them, and the front of its output: so many groups of words
unfoldable pub groups_told : List ℕ → ℕ
groups_told figures = get_or figures (length figures - 1) 0

unfoldable pub reading_told : List ℕ → List ℕ
reading_told figures = take (length figures - 1) figures

unfoldable pub copy_stored : List ℕ → List ℕ → List ℕ
copy_stored figures after = take (numbers_per_group * groups_told figures) after

-- Of an 800 record that is copied as a 6250 one (document 02, request 2.6: "What it wrote, read at 6250 with no pointer, gives the data of the one
-- 800 record that fitted"): where the copy is delivered, exactly one 800 record fits the reading, what stands at the front is the 6250 record of
-- its data, and a 6250 reader delivers them from there with no change. An undamaged record is copied with no change told; and a backward reading
-- is copied as the same turned forward.
pub record Copies (backward : Bool) (characters : List ℕ) (answer : Answer) (before after : List ℕ) : Type 0 where
  pub one_copied : (figures : List ℕ) → answer ≡ delivered figures
      → (bytes : List ℕ) × OneFits (at800 backward characters) bytes
      × (copy_stored figures after ≡ written_record bpi6250 bytes) × ReadsBack bpi6250 (copy_stored figures after) bytes
  pub undamaged_copied : (bytes : List ℕ) → IsData bpi800 bytes → at800 backward characters ≡ undamaged bpi800 backward (written_record bpi800 bytes)
      → copy_space (length characters) ≤ length before
      → (answer ≡ delivered (unchanged bpi800 (length bytes) ++ (groups_for (length bytes) ∷ [])))
      × (after ≡ written_record bpi6250 bytes ++ drop (length (written_record bpi6250 bytes)) before)
  pub as_turned : (answer ≡ copy_answer (not backward) (picture true characters) (length before))
      × (after ≡ output_after answer (copied_record (not backward) (picture true characters)) before)
  pub counted : (figures : List ℕ) → answer ≡ delivered figures → Counts bpi800 (reading_told figures)

unfoldable pub SecondTerm : Call → Answer → List ℕ → List ℕ → Type 0
SecondTerm (write d bytes) answer before after = Writes d bytes answer before after
SecondTerm (read r) answer before after = Reads r answer before after
SecondTerm (log backward words maps) answer before after = Logs backward words maps answer before after
SecondTerm (read_log groups bytes) answer before after = LogsAgain groups bytes answer after
SecondTerm (move_words toward card source) answer before after = MovesWords toward card source answer before after
SecondTerm (move_map toward card m) answer before after = MovesMap toward card m answer
SecondTerm (invert_card card) answer before after = Inverts card answer
SecondTerm (copy backward characters) answer before after = Copies backward characters answer before after

-- ---- the third term

-- the call was refused, and its output is as it was
unfoldable pub Refused : Answer → List ℕ → List ℕ → Type 0
Refused answer before after = (number : ℕ) × (place : ℕ) × (answer ≡ refused number place) × (after ≡ before)

-- "A reading is delivered exactly when exactly one written record fits it, and refused if none or several do. Nobody can get another
-- record delivered than that one": what is told and what is stored are made of its data.
pub record Decides (r : Reading) (tells stores : List ℕ → List ℕ) (answer : Answer) (before after : List ℕ) : Type 0 where
  pub delivered_if_one : (bytes : List ℕ) → OneFits r bytes
      → (answer ≡ delivered (tells bytes)) × (after ≡ stores bytes ++ drop (length (stores bytes)) before)
  pub one_if_delivered : (figures : List ℕ) → answer ≡ delivered figures → (bytes : List ℕ) × OneFits r bytes
  pub refused_if_none : ((bytes : List ℕ) → Fits r bytes → ⊥) → Refused answer before after
  pub refused_if_several : (one another : List ℕ) → Fits r one → Fits r another → (one ≡ another → ⊥) → Refused answer before after

-- Of a reader: "its data are given, with their length, and the changes told are the reading's differences from it."
unfoldable pub DecidesRead : Reading → Answer → List ℕ → List ℕ → Type 0
DecidesRead r answer before after = Decides r (told r) (λ bytes. bytes) answer before after

-- Of a log: it is that of the reading's differences from the one record that fits. Read back, group g's map has bit k exactly if word k of
-- group g of the reading differs from that record.
pub record DecidesLog (backward : Bool) (words maps : List ℕ) (answer : Answer) (before after : List ℕ) : Type 0 where
  pub decided : Decides (at6250 backward words maps) (λ bytes. length (log_of (maps_changed backward words maps bytes)) ∷ [])
      (λ bytes. log_of (maps_changed backward words maps bytes)) answer before after
  pub marked : (bytes figures : List ℕ) → Fits (at6250 backward words maps) bytes → answer ≡ delivered figures
      → (g k : ℕ) → g < length maps → k < tracks
      → bit k (get_or (maps_of (length maps) (take (length_told figures) after)) g 0)
      ≡ cond (eqb (get_or (read_group backward words maps g) k 0) (get_or (group_read false (length maps) (written_record bpi6250 bytes) g) k 0)) 0 1

-- Of a copy: the reading's figures and the number of groups are told, and the 6250 record of the data is stored.
unfoldable pub DecidesCopy : Bool → List ℕ → Answer → List ℕ → List ℕ → Type 0
DecidesCopy backward characters answer before after =
    Decides (at800 backward characters) (λ bytes. told (at800 backward characters) bytes ++ (groups_for (length bytes) ∷ []))
    (λ bytes. written_record bpi6250 bytes) answer before after

-- "once lengths, space and stray bits have passed"
unfoldable pub ThirdTerm : Call → Answer → List ℕ → List ℕ → Type 0
ThirdTerm (write d bytes) answer before after = Unit
ThirdTerm (read r) answer before after = Passes r (length before) → DecidesRead r answer before after
ThirdTerm (log backward words maps) answer before after =
    six.Passes backward words maps → log_space (length maps) ≤ length before → DecidesLog backward words maps answer before after
ThirdTerm (read_log groups bytes) answer before after = Unit
ThirdTerm (move_words toward card source) answer before after = Unit
ThirdTerm (move_map toward card m) answer before after = Unit
ThirdTerm (invert_card card) answer before after = Unit
ThirdTerm (copy backward characters) answer before after =
    eight.Passes backward characters → copy_space (length characters) ≤ length before → DecidesCopy backward characters answer before after

-- "Exactly one record" is said of data, since a written record has one list of data.
unfoldable pub OneData : Density → Type 0
OneData d = (bytes others : List ℕ) → IsData d bytes → IsData d others → written_record d bytes ≡ written_record d others → bytes ≡ others

-- ---- all of them, of one call

pub record Terms (call : Call) (answer : Answer) (before after : List ℕ) : Type 0 where
  pub first : FirstTerm call answer before after
  pub second : SecondTerm call answer before after
  pub third : ThirdTerm call answer before after
