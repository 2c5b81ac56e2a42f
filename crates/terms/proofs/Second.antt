-- The notice's second term holds: a written record is read back, what is read unchanged is written again, and a reading is answered as the
-- same turned is.
-- Assumes nothing.
use mathlib.Core.Path.{◌≡◌, refl, sym, ap, subst, ◌∙◌}
use mathlib.Core.Bool.{Bool, true, false, true≢false}
use mathlib.Core.List.{List, ◌++◌}
use Prim.Native.Nat.{ℕ, ◌-◌, ◌*◌, ◌/◌, ◌≤◌}
use native.Mathlib.Omega.{arith}
use lib.ListN.{length, get_or, take, drop, replicate}
use lib.Seq.{take-append_seam}
use Rattle.answer.specs.Answer.{Answer, delivered, output_after}
use Rattle.record6250.proofs.Answer as sixAnswer
use Rattle.record6250.proofs.Backward as sixBackward
use Rattle.record6250.proofs.Picture.{length_maps}
use Rattle.record6250.proofs.Record as sixRecord
use Rattle.record6250.proofs.Undamaged as sixUndamaged
use Rattle.record6250.specs.Record as sixSpecs
use Rattle.record800.proofs.Answer as eightAnswer
use Rattle.record800.proofs.Backward as eightBackward
use Rattle.record800.proofs.Picture as eightPicture
use Rattle.record800.proofs.Recorded as eightRecord
use Rattle.record800.proofs.Undamaged as eightUndamaged
use Rattle.terms.specs.Call.{write, answer_to}
use Rattle.terms.specs.Reading.{Density, bpi6250, bpi800, Reading, at6250, at800, density, is_backward, received, IsData, written_record, turned, undamaged, Enough, Passes, Fits, told, unchanged, length_told, changes_told, read_answer, read_data}
use Rattle.terms.specs.Terms.{record_stored, Writes, Reads, OneData}
use Rattle.terms.proofs.Counted.{counts_told_lem}
use Rattle.terms.proofs.Third.{one_delivered, delivered_passes, delivered_one, output_of}

-- ---- a reading and the same turned

pub turned_answer : (r : Reading) (space : ℕ) → read_answer (turned r) space ≡ read_answer r space
unfolding turned read_answer
turned_answer (at6250 backward words maps) space = sixBackward.turned_answer backward words maps space
turned_answer (at800 backward characters) space = eightBackward.turned_answer backward characters space

turned_data : (r : Reading) (space : ℕ) → Passes r space → read_data (turned r) ≡ read_data r
unfolding turned read_data Passes
turned_data (at6250 backward words maps) space p = sixBackward.turned_data backward words maps p.0.lengths
turned_data (at800 backward characters) space p = eightBackward.turned_data backward characters

-- what a delivery stores is the same; a refusal stores nothing
turned_output : (r : Reading) (before : List ℕ) (answer : Answer) → answer ≡ read_answer r (length before)
    → output_after answer (read_data r) before ≡ output_after answer (read_data (turned r)) before
unfolding output_after
turned_output r before (Answer.delivered figures) e =
    ap (λ (l : List ℕ). l ++ drop (length l) before) (sym (turned_data r (length before) (delivered_passes r (length before) figures (sym e))))
turned_output r before (Answer.refused number place) e = refl

turned_enough : (r : Reading) (space : ℕ) → Enough (turned r) space → Enough r space
unfolding turned Enough
turned_enough (at6250 backward words maps) space h = subst (λ (n : ℕ). 7 * n - 1 ≤ space) (length_maps true maps) h
turned_enough (at800 backward characters) space h = subst (λ (n : ℕ). n - 2 ≤ space) (eightPicture.length_picture true characters) h

-- ---- a written record, read undamaged

-- it is delivered with its data and no change counted
abbrev ReadBack : Density → List ℕ → Reading → ℕ → Type 0
ReadBack d bytes r space = (read_answer r space ≡ delivered (unchanged d (length bytes))) × (read_data r ≡ bytes)

no_pointers_lem : (bytes : List ℕ) → replicate (length (sixSpecs.written_record bytes) / 9) 0 ≡ sixUndamaged.no_pointers bytes
no_pointers_lem bytes =
    let groups : length (sixSpecs.written_record bytes) / 9 ≡ sixSpecs.groups_for (length bytes) = omega (arith, sixRecord.length_record bytes) in
    ap (λ (n : ℕ). replicate n 0) groups

forward_back : (d : Density) (bytes : List ℕ) → IsData d bytes → (space : ℕ)
    → Enough (undamaged d false (written_record d bytes)) space → ReadBack d bytes (undamaged d false (written_record d bytes)) space
unfolding IsData written_record undamaged Enough unchanged read_answer read_data
forward_back bpi6250 bytes is_data space enough =
    rw (no_pointers_lem bytes)
    (sixUndamaged.undamaged_answer bytes is_data space (rw (no_pointers_lem bytes) at enough), sixUndamaged.undamaged_data bytes is_data)
forward_back bpi800 bytes is_data space enough =
    (eightUndamaged.undamaged_answer bytes is_data space enough, eightUndamaged.undamaged_data bytes is_data)

turned_undamaged : (d : Density) (l : List ℕ) → undamaged d true l ≡ turned (undamaged d false l)
unfolding undamaged
turned_undamaged bpi6250 l = refl
turned_undamaged bpi800 l = refl

pub read_back : (d : Density) (bytes : List ℕ) → IsData d bytes → (backward : Bool) (space : ℕ)
    → Enough (undamaged d backward (written_record d bytes)) space → ReadBack d bytes (undamaged d backward (written_record d bytes)) space
read_back d bytes is_data false space enough = forward_back d bytes is_data space enough
read_back d bytes is_data true space enough =
    let r = undamaged d false (written_record d bytes) in
    let t = turned_undamaged d (written_record d bytes) in
    let f = forward_back d bytes is_data space (turned_enough r space (subst (λ (q : Reading). Enough q space) t enough)) in (
      ap (λ (q : Reading). read_answer q space) t ∙ turned_answer r space ∙ f.0,
      ap read_data t ∙ turned_data r space (delivered_passes r space _ f.0) ∙ f.1,
    )

-- a written record has one list of data
pub one_data : (d : Density) → OneData d
unfolding OneData IsData written_record
one_data bpi6250 = sixUndamaged.one_data
one_data bpi800 = eightUndamaged.one_data

-- ---- what a writer left

-- the figures of a writer's delivery tell the length of its record
record_counted : (d : Density) (bytes : List ℕ) (space : ℕ) (figures after : List ℕ) → answer_to (write d bytes) space ≡ delivered figures
    → record_stored d figures after ≡ take (length (written_record d bytes)) after
unfolding answer_to record_stored written_record
record_counted bpi6250 bytes space figures after e =
    ap (λ (l : List ℕ). take (9 * get_or l 0 0) after) (sixAnswer.written_passed (length bytes) space figures e).0
    ∙ ap (λ (n : ℕ). take n after) (sym (sixRecord.length_record bytes))
record_counted bpi800 bytes space figures after e =
    ap (λ (l : List ℕ). take (get_or l 0 0) after) (eightAnswer.written_passed (length bytes) space figures e).0
    ∙ ap (λ (n : ℕ). take n after) (sym (eightRecord.length_record bytes))

written_delivered : (d : Density) (bytes : List ℕ) (space : ℕ) → IsData d bytes → length (written_record d bytes) ≤ space
    → (figures : List ℕ) × (answer_to (write d bytes) space ≡ delivered figures)
unfolding answer_to IsData written_record
written_delivered bpi6250 bytes space is_data enough =
    (_, sixAnswer.write_delivers (length bytes) space is_data.within (omega (arith, sixRecord.length_record bytes)))
written_delivered bpi800 bytes space is_data enough =
    (_, eightAnswer.write_delivers (length bytes) space is_data.some is_data.within (omega (arith, eightRecord.length_record bytes)))

module _ (d : Density) (bytes : List ℕ) (answer : Answer) (before after : List ℕ) (answers : answer ≡ answer_to (write d bytes) (length before))
    (stores : after ≡ output_after answer (written_record d bytes) before) where
  is_written : (figures : List ℕ) → answer ≡ delivered figures → record_stored d figures after ≡ written_record d bytes
  is_written figures e =
      record_counted d bytes (length before) figures after (sym answers ∙ e)
      ∙ ap (take (length (written_record d bytes))) (output_of answer figures (written_record d bytes) before after e stores)
      ∙ take-append_seam (written_record d bytes) _

  pub writes : Writes d bytes answer before after
  writes = record {
    is_delivered = λ is_data enough. let w = written_delivered d bytes (length before) is_data enough in (w.0, answers ∙ w.1);
    is_record = is_written;
    reads_back = λ is_data figures e backward space.
        subst (λ (l : List ℕ). Enough (undamaged d backward l) space → ReadBack d bytes (undamaged d backward l) space)
        (sym (is_written figures e)) (read_back d bytes is_data backward space);
  }

-- ---- what a reader delivers with no change

unchanged_record : (r : Reading) (space : ℕ) → Passes r space → is_backward r ≡ false → (bytes : List ℕ) → Fits r bytes
    → changes_told (density r) (told r bytes) ≡ 0 → IsData (density r) bytes × (written_record (density r) bytes ≡ received r)
unfolding Passes Fits told changes_told density is_backward received IsData written_record
unchanged_record (at6250 true words maps) space p f bytes fits none = absurd (true≢false f)
unchanged_record (at6250 false words maps) space p f bytes fits none =
    (fits.are_data, sym (sixUndamaged.unchanged words maps bytes p.0 fits none))
unchanged_record (at800 true characters) space p f bytes fits none = absurd (true≢false f)
unchanged_record (at800 false characters) space p f bytes fits none =
    (fits.are_data, sym (eightUndamaged.unchanged false characters bytes fits none) ∙ eightPicture.picture_forward characters)

length_told_lem : (r : Reading) (bytes : List ℕ) → length_told (told r bytes) ≡ length bytes
unfolding length_told told
length_told_lem (at6250 backward words maps) bytes = refl
length_told_lem (at800 backward characters) bytes = refl

module _ (r : Reading) (answer : Answer) (before after : List ℕ) (answers : answer ≡ read_answer r (length before))
    (stores : after ≡ output_after answer (read_data r) before) where
  -- the output after a delivery of these data
  stored : (figures bytes : List ℕ) → answer ≡ delivered figures → read_data r ≡ bytes → after ≡ bytes ++ drop (length bytes) before
  stored figures bytes e same =
      output_of answer figures (read_data r) before after e stores ∙ ap (λ (l : List ℕ). l ++ drop (length l) before) same

  read_undamaged : (bytes : List ℕ) → IsData (density r) bytes → r ≡ undamaged (density r) (is_backward r) (written_record (density r) bytes)
      → Enough r (length before) → (answer ≡ delivered (unchanged (density r) (length bytes))) × (after ≡ bytes ++ drop (length bytes) before)
  read_undamaged bytes is_data e enough =
      let b = read_back (density r) bytes is_data (is_backward r) (length before) (subst (λ (q : Reading). Enough q (length before)) e enough) in
      let told_is = answers ∙ ap (λ (q : Reading). read_answer q (length before)) e ∙ b.0 in
      (told_is, stored _ bytes told_is (ap read_data e ∙ b.1))

  written_again : is_backward r ≡ false → (figures : List ℕ) → answer ≡ delivered figures → changes_told (density r) figures ≡ 0
      → IsData (density r) (take (length_told figures) after) × (written_record (density r) (take (length_told figures) after) ≡ received r)
  written_again f figures e none =
      let passes = delivered_passes r (length before) figures (sym answers ∙ e) in
      let one = delivered_one r (length before) figures (sym answers ∙ e) in
      let bytes : List ℕ = one.0 in
      let d = one_delivered r (length before) passes bytes one.1 in
      let whole = sym e ∙ answers ∙ d.0 in
      let same : figures ≡ told r bytes = cc in
      let front : take (length_told figures) after ≡ bytes =
      ap (λ (n : ℕ). take n after) (ap length_told same ∙ length_told_lem r bytes)
      ∙ ap (take (length bytes)) (stored figures bytes e d.1)
      ∙ take-append_seam bytes _ in
      subst (λ (l : List ℕ). IsData (density r) l × (written_record (density r) l ≡ received r)) (sym front)
      (unchanged_record r (length before) passes f bytes one.1.fits (sym (ap (changes_told (density r)) same) ∙ none))

  pub reads : Reads r answer before after
  reads = record {
    undamaged_read = read_undamaged;
    unchanged_written = written_again;
    as_turned = (answers ∙ sym (turned_answer r (length before)), stores ∙ turned_output r before answer answers);
    counted = λ figures e. counts_told_lem r (length before) figures (sym answers ∙ e);
  }
