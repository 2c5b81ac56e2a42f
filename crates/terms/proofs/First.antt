-- The notice's first term holds: every answer is a delivery, whose result the output has space for, or a refusal of the table, with its place.
-- Assumes nothing.
use mathlib.Core.Bool.{Bool, true, cond, ◌&&◌}
use mathlib.Core.List.{List, [], ◌∷◌}
use mathlib.Core.Logic.{inl}
use mathlib.Core.Path.{◌≡◌, sym, ap, subst}
use Prim.Native.Nat.{ℕ, suc, ◌+◌, ◌-◌, ◌*◌, ◌≤◌}
use native.Mathlib.Omega.{arith}
use borrow.Author.Tests.{ltb-true, eqb-true}
use lib.Dec.{eqb, leb, ltb}
use lib.ListN.{length}
use Rattle.answer.specs.Answer.{Answer, delivered, refused_for, output_after}
use Rattle.slices.specs.Above.{first_above}
use Rattle.answer.specs.declared.Reason.TheVariants.{Length, Space, StrayBits, Padding, NoRecord, SeveralRecords, LogLength, LogContent, CardContent, CardLength}
use Rattle.answer.proofs.Listed.{Listed, listed_delivery, listed_at, listed_refusal, listed_choice}
use Rattle.answer.proofs.Retold.{listed_retold}
use Rattle.copy800.proofs.Copy.{length_copied, copy_passed}
use Rattle.copy800.specs.Copy.{copy_space, copy_answer}
use Rattle.record6250.proofs.Answer as sixAnswer
use Rattle.record6250.proofs.Record as sixRecord
use Rattle.record6250.specs.Group.{reason_of}
use Rattle.record6250.specs.Read as six
use Rattle.record6250.specs.Record as sixSpecs
use Rattle.record6250.specs.Written as sixWritten
use Rattle.record800.proofs.Answer as eightAnswer
use Rattle.record800.proofs.Recorded as eightRecord
use Rattle.record800.specs.Read as eight
use Rattle.record800.specs.Written as eightWritten
use Rattle.rectangular.specs.Constants as sixConstants
use Rattle.cyclic.specs.Constants as eightConstants
use Rattle.sense_log.proofs.Answer.{back_delivered}
use Rattle.sense_log.proofs.Back.{length_maps_of}
use Rattle.sense_log.proofs.Written.{log_passed, reading_log_within}
use Rattle.sense_log.specs.Back.{length_suits, content_suits, read_log_answer}
use Rattle.sense_log.specs.Log.{log_space}
use Rattle.sense_log.specs.Written.{log_answer}
use Rattle.track_order.proofs.Order.{length_arranged}
use Rattle.track_order.proofs.Moved.{words_passed}
use Rattle.track_order.specs.Card.{first_wrong}
use Rattle.track_order.specs.Moved.{if_nine_words, if_no_stray, if_nine_numbers, if_none_wrong, map_answer, card_words_answer, card_map_answer, inverse_answer}
use Rattle.track_order.specs.Order.{way}
use Rattle.terms.specs.Call.{Call, write, read, log, read_log, move_words, move_map, invert_card, copy, answer_to, result_of, card_places, places}
use Rattle.terms.specs.Reading.{bpi6250, bpi800, Reading, at6250, at800, Enough, Passes, Fits, written_record, read_answer, read_data}
use Rattle.terms.specs.Terms.{FirstTerm}
use Rattle.terms.proofs.Third.{one_delivered, delivered_passes, delivered_one}

-- ---- the refusals of each call

module _ (bound : ℕ → ℕ) where
  -- the first rows of the table: lengths, and space
  first_rows : (suits enough : Bool) (rest : Answer) → (suits ≡ true → Listed bound rest)
      → Listed bound (cond suits (cond enough rest (refused_for Space 0)) (refused_for Length 0))
  first_rows suits enough rest listed =
      listed_choice bound suits _ _ (λ s. listed_choice bound enough _ _ (λ e. listed s) (λ e. listed_refusal bound Space))
      (λ s. listed_refusal bound Length)

  -- and the third: stray bits, told with a place
  third_row : (place count : ℕ) → count ≤ bound 3 → (rest : Answer) → Listed bound rest
      → Listed bound (cond (ltb place count) (refused_for StrayBits place) rest)
  third_row place count within rest listed =
      listed_choice bound (ltb place count) _ _ (λ t. listed_at bound StrayBits place (inl (omega (arith, ltb-true place count t)))) (λ t. listed)

listed_6250 : (backward : Bool) (words maps : List ℕ) → Listed (λ n. length maps) (six.judged_answer backward words maps)
unfolding six.judged_answer
listed_6250 backward words maps =
    listed_choice (λ n. length maps) (ltb (six.first_unfit backward words maps) (length maps)) _ _
    (λ t. listed_at (λ n. length maps) (reason_of (six.judgement backward words maps (six.first_unfit backward words maps)))
    (six.first_unfit backward words maps) (inl (ltb-true _ _ t)))
    (λ t. listed_choice (λ n. length maps) (six.padding_suits (six.read_body backward words maps)) _ _ (λ p. listed_delivery (λ n. length maps) _)
    (λ p. listed_refusal (λ n. length maps) Padding))

listed_one_of : (bound : ℕ → ℕ) (n : ℕ) (characters tracks : List ℕ) → Listed bound (eight.one_of n characters tracks)
unfolding eight.one_of
listed_one_of bound n characters [] = listed_refusal bound NoRecord
listed_one_of bound n characters (j ∷ []) = listed_delivery bound _
listed_one_of bound n characters (i ∷ j ∷ more) = listed_refusal bound SeveralRecords

listed_800 : (bound : ℕ → ℕ) (n : ℕ) (characters : List ℕ) → Listed bound (eight.judged_answer n characters)
unfolding eight.judged_answer
listed_800 bound n characters =
    listed_choice bound (eqb (eight.wrong_count n characters) 0) _ _
    (λ t. listed_choice bound (eight.holds n characters 0) _ _ (λ h. listed_delivery bound _) (λ h. listed_refusal bound NoRecord))
    (λ t. listed_one_of bound n characters _)

-- whatever space is asked for
listed_if_6250 : (backward : Bool) (words maps : List ℕ) (enough : Bool) → Listed (λ n. length maps) (six.answer_if backward words maps enough)
unfolding six.answer_if
listed_if_6250 backward words maps enough =
    first_rows (λ n. length maps) (six.lengths_suit (length words) (length maps)) enough _
    (λ s. third_row (λ n. length maps) (six.first_stray backward words maps) (length maps) (omega arith) _ (listed_6250 backward words maps))

listed_if_800 : (backward : Bool) (characters : List ℕ) (enough : Bool) → Listed (λ n. length characters) (eight.answer_if backward characters enough)
unfolding eight.answer_if
listed_if_800 backward characters enough =
    first_rows (λ n. length characters) (eight.length_suits (length characters)) enough _
    (λ s. third_row (λ n. length characters) (eight.first_stray backward characters) (length characters) (omega arith) _
    (listed_800 (λ n. length characters) (length characters - 2) (eight.picture backward characters)))

listed_read : (r : Reading) (space : ℕ) → Listed (places (read r)) (read_answer r space)
unfolding read_answer places six.read_answer eight.read_answer
listed_read (at6250 backward words maps) space = listed_if_6250 backward words maps (leb (7 * length maps - 1) space)
listed_read (at800 backward characters) space = listed_if_800 backward characters (leb (length characters - 2) space)

-- a log keeps the refusal of its reading, and so does a copy; reading a log back has three refusals of its own
listed_log : (backward : Bool) (words maps : List ℕ) (space : ℕ) → Listed (λ n. length maps) (log_answer backward words maps space)
unfolding log_answer
listed_log backward words maps space = listed_retold (λ n. length maps) _ _ (listed_if_6250 backward words maps (leb (log_space (length maps)) space))

listed_copy : (backward : Bool) (characters : List ℕ) (space : ℕ) → Listed (λ n. length characters) (copy_answer backward characters space)
unfolding copy_answer
listed_copy backward characters space =
    listed_retold (λ n. length characters) _ _ (listed_if_800 backward characters (leb (copy_space (length characters)) space))

listed_back : (groups : ℕ) (bytes : List ℕ) (space : ℕ) → Listed (λ n. 0) (read_log_answer groups bytes space)
unfolding read_log_answer
listed_back groups bytes space =
    listed_choice (λ n. 0) (leb groups space) _ _
    (λ room. listed_choice (λ n. 0) (length_suits groups bytes) _ _
    (λ suits. listed_choice (λ n. 0) (content_suits groups bytes) _ _ (λ good. listed_delivery (λ n. 0) _) (λ bad. listed_refusal (λ n. 0) LogContent))
    (λ short. listed_refusal (λ n. 0) LogLength))
    (λ full. listed_refusal (λ n. 0) Space)

-- the words of a card's calls, and what is asked of the card before
module _ (others : ℕ) where
  listed_numbers : (card : List ℕ) (next : Answer) → Listed (card_places others) next → Listed (card_places others) (if_nine_numbers card next)
  unfolding if_nine_numbers
  listed_numbers card next listed =
      listed_choice (card_places others) (eqb (length card) 9) _ _ (λ t. listed) (λ t. listed_refusal (card_places others) CardLength)

  listed_right : (card : List ℕ) (next : Answer) → Listed (card_places others) next → Listed (card_places others) (if_none_wrong card next)
  unfolding if_none_wrong card_places
  listed_right card next listed =
      listed_choice (card_places others) (ltb (first_wrong card) 9) _ _
      (λ t. listed_at (card_places others) CardContent (suc (first_wrong card)) (inl (omega (arith, ltb-true (first_wrong card) 9 t)))) (λ t. listed)

listed_words : (card source : List ℕ) (space : ℕ) → Listed (card_places (length source)) (card_words_answer card source space)
unfolding card_words_answer if_nine_words if_no_stray card_places
listed_words card source space =
    let places : ℕ → ℕ = card_places (length source) in
    listed_numbers (length source) card _
    (first_rows places (eqb (length source) 9) (leb 9 space) _
    (λ s. listed_right (length source) card _
    (third_row places (first_above 1023 source) 9 (omega (arith, eqb-true (length source) 9 s)) _ (listed_delivery places []))))

listed_map : (card : List ℕ) (moved : ℕ → ℕ) (m : ℕ) → Listed (card_places 0) (card_map_answer card moved m)
unfolding card_map_answer map_answer
listed_map card moved m =
    listed_numbers 0 card _ (listed_right 0 card _
    (listed_choice (card_places 0) (leb m 511) _ _ (λ t. listed_delivery (card_places 0) _) (λ t. listed_refusal (card_places 0) StrayBits)))

listed_inverse : (card : List ℕ) → Listed (card_places 0) (inverse_answer card)
unfolding inverse_answer
listed_inverse card = listed_numbers 0 card _ (listed_right 0 card _ (listed_delivery (card_places 0) _))

listed_answer : (call : Call) (space : ℕ) → Listed (places call) (answer_to call space)
unfolding answer_to places sixWritten.write_answer eightWritten.write_answer
listed_answer (write bpi6250 bytes) space =
    first_rows (λ n. 0) (leb (length bytes) sixConstants.most_data) (leb (9 * sixSpecs.groups_for (length bytes)) space) _ (λ s. listed_delivery (λ n. 0) _)
listed_answer (write bpi800 bytes) space =
    first_rows (λ n. 0) (leb 1 (length bytes) && leb (length bytes) eightConstants.most_data) (leb (length bytes + 2) space) _ (λ s. listed_delivery (λ n. 0) _)
listed_answer (read r) space = listed_read r space
listed_answer (log backward words maps) space = listed_log backward words maps space
listed_answer (read_log groups bytes) space = listed_back groups bytes space
listed_answer (move_words toward card source) space = listed_words card source space
listed_answer (move_map toward card m) space = listed_map card _ m
listed_answer (invert_card card) space = listed_inverse card
listed_answer (copy backward characters) space = listed_copy backward characters space

-- ---- the space of a delivery

-- data whose record fits have space
fit_within : (r : Reading) (space : ℕ) → Passes r space → (bytes : List ℕ) → Fits r bytes → length bytes ≤ space
unfolding Passes Enough Fits sixSpecs.groups_for
fit_within (at6250 backward words maps) space p bytes fits = omega (arith, fits.as_many, p.1)
fit_within (at800 backward characters) space p bytes fits = omega (arith, fits.as_long, p.1)

read_within : (r : Reading) (space : ℕ) (figures : List ℕ) → read_answer r space ≡ delivered figures → length (read_data r) ≤ space
read_within r space figures e =
    let passes = delivered_passes r space figures e in
    let one = delivered_one r space figures e in
    omega (arith, ap length (one_delivered r space passes one.0 one.1).1, fit_within r space passes one.0 one.1.fits)

result_within : (call : Call) (space : ℕ) (figures : List ℕ) → answer_to call space ≡ delivered figures → length (result_of call) ≤ space
unfolding answer_to result_of written_record
result_within (write bpi6250 bytes) space figures e =
    omega (arith, sixRecord.length_record bytes, (sixAnswer.written_passed (length bytes) space figures e).1)
result_within (write bpi800 bytes) space figures e =
    omega (arith, eightRecord.length_record bytes, (eightAnswer.written_passed (length bytes) space figures e).1)
result_within (read r) space figures e = read_within r space figures e
result_within (log backward words maps) space figures e =
    omega (arith, reading_log_within backward words maps, (log_passed backward words maps space figures e).1)
result_within (read_log groups bytes) space figures e =
    omega (arith, length_maps_of groups bytes, (back_delivered groups bytes space figures e).0)
result_within (move_words toward card source) space figures e =
    omega (arith, length_arranged (way toward card) source, (words_passed source space card figures e).2)
result_within (move_map toward card m) space figures e = omega arith
result_within (invert_card card) space figures e = omega arith
result_within (copy backward characters) space figures e =
    omega (arith, length_copied backward characters, (copy_passed backward characters space figures e).0)

-- ---- the first term, of any answer and output that are the call's

pub ends : (call : Call) (answer : Answer) (before after : List ℕ) → answer ≡ answer_to call (length before)
    → after ≡ output_after answer (result_of call) before → FirstTerm call answer before after
unfolding FirstTerm Listed output_after
ends call (Answer.delivered figures) before after answers stores = (result_within call (length before) figures (sym answers), stores)
ends call (Answer.refused number place) before after answers stores =
    let listed = subst (Listed (places call)) (sym answers) (listed_answer call (length before)) in
    (listed.0, listed.1, stores)
