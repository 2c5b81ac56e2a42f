-- The second and the third term of a log (document 02, request 2.1): it reads back, a good one is written again, and what it marks is where
-- the reading differs from the one record that fits.
-- Assumes nothing.
use mathlib.Core.Path.{◌≡◌, refl, sym, ap, ◌∙◌}
use mathlib.Core.Bool.{Bool, true, false, not, cond}
use mathlib.Core.List.{List, [], ◌∷◌, ◌++◌}
use Prim.Native.Nat.{ℕ, ◌<◌, ◌≤◌}
use native.Mathlib.Nat.{le_of_eq}
use borrow.Author.Tests.{le-leb}
use lib.Dec.{eqb, leb}
use lib.ListN.{length, get_or, take, drop}
use lib.Seq.{take-append_seam}
use Rattle.answer.specs.Answer.{Answer, delivered, output_after}
use Rattle.answer.proofs.Retold.{retold_delivered}
use Rattle.indexed.specs.List.{total}
use Rattle.indexed.proofs.Tabulate.{get_d_tabulate}
use Rattle.rectangular.specs.Constants.{tracks}
use Rattle.rectangular.proofs.Changed.{bit_changed}
use Rattle.register.specs.Bit.{bit}
use Rattle.record6250.proofs.Answer.{all_passed, answer_passed}
use Rattle.record6250.proofs.Counted.{delivery_is}
use Rattle.record6250.proofs.Fitting.{fits_delivered, delivered_fits, maps_changed_lem, only_one}
use Rattle.record6250.specs.Fits as six
use Rattle.record6250.specs.Fits.{maps_changed}
use Rattle.record6250.specs.Picture.{group_read, picture_maps, turned_numbers}
use Rattle.record6250.specs.Read.{read_group, read_data, track_changes, judged_answer, answer_if}
use Rattle.sense_log.proofs.Again.{log_again}
use Rattle.sense_log.proofs.Answer.{back_all, back_delivered}
use Rattle.sense_log.proofs.Back.{length_maps_of}
use Rattle.sense_log.proofs.Marks.{marks_total}
use Rattle.sense_log.proofs.Written.{log_passed, reading_log_back, reading_log_delivered, log_turned, log_answer_turned}
use Rattle.sense_log.specs.Back.{read_log_answer, maps_of}
use Rattle.sense_log.specs.Log.{log_space, log_of, marks, track_marks}
use Rattle.sense_log.specs.Written.{logged, reading_log, log_answer}
use Rattle.terms.specs.Reading.{bpi6250, at6250, Enough, Fits, OneFits, written_record, length_told, counts_told, read_answer}
use Rattle.terms.specs.Terms.{Logs, LogsAgain, DecidesLog}
use Rattle.terms.proofs.Third.{output_of, decides}

-- ---- a log that is read back

module _ (groups : ℕ) (bytes : List ℕ) (answer : Answer) (before after : List ℕ)
    (answers : answer ≡ read_log_answer groups bytes (length before)) (stores : after ≡ output_after answer (maps_of groups bytes) before) where
  -- the maps that stand at the front after a delivery
  maps_front : (figures : List ℕ) → answer ≡ delivered figures → take groups after ≡ maps_of groups bytes
  maps_front figures e =
      ap (take groups) (output_of answer figures (maps_of groups bytes) before after e stores)
      ∙ ap (λ (n : ℕ). take n (maps_of groups bytes ++ drop (length (maps_of groups bytes)) before)) (sym (length_maps_of groups bytes))
      ∙ take-append_seam (maps_of groups bytes) _

  marked_each : (figures : List ℕ) → answer ≡ delivered figures
      → (figures ≡ track_marks (take groups after)) × (total tracks (λ t. get_or figures t 0) ≡ marks (take groups after))
  marked_each figures e =
      let good = back_delivered groups bytes (length before) figures (sym answers ∙ e) in
      let whole = sym e ∙ answers ∙ back_all groups bytes (length before) (le-leb groups (length before) good.0) good.1 good.2 in
      let is : figures ≡ track_marks (maps_of groups bytes) = cc in (
        is ∙ ap track_marks (sym (maps_front figures e)),
        ap (λ (l : List ℕ). total tracks (λ t. get_or l t 0)) is ∙ marks_total groups bytes good.2 ∙ ap marks (sym (maps_front figures e)),
      )

  pub logs_again : LogsAgain groups bytes answer after
  logs_again = record {
    written_again = λ small figures e.
        let good = back_delivered groups bytes (length before) figures (sym answers ∙ e) in
        ap log_of (maps_front figures e) ∙ log_again groups bytes small good.1 good.2;
    marks_told = marked_each;
  }

-- ---- a log that is written

module _ (backward : Bool) (words maps : List ℕ) (answer : Answer) (before after : List ℕ)
    (answers : answer ≡ log_answer backward words maps (length before)) (stores : after ≡ output_after answer (reading_log backward words maps) before) where
  -- what stands at the front after a delivery
  front : (figures : List ℕ) → answer ≡ delivered figures → take (length_told figures) after ≡ reading_log backward words maps
  unfolding length_told
  front figures e =
      let told = (log_passed backward words maps (length before) figures (sym answers ∙ e)).2 in
      ap (λ (l : List ℕ). take (get_or l 0 0) after) told
      ∙ ap (take (length (reading_log backward words maps))) (output_of answer figures (reading_log backward words maps) before after e stores)
      ∙ take-append_seam (reading_log backward words maps) _

  turned_output : after ≡ output_after answer (reading_log (not backward) (turned_numbers words) (picture_maps true maps)) before
  unfolding output_after
  turned_output = by answer refl
    where
      by : (a : Answer) → answer ≡ a → after ≡ output_after answer (reading_log (not backward) (turned_numbers words) (picture_maps true maps)) before
      by (Answer.delivered figures) e =
          let passes = (log_passed backward words maps (length before) figures (sym answers ∙ e)).0 in
          stores ∙ ap (λ (l : List ℕ). output_after answer l before) (sym (log_turned backward words maps passes.lengths))
      by (Answer.refused number place) e =
          stores
          ∙ ap (λ (a : Answer). output_after a (reading_log backward words maps) before) e
          ∙ sym (ap (λ (a : Answer). output_after a (reading_log (not backward) (turned_numbers words) (picture_maps true maps)) before) e)

  -- what a reader tells of the same reading
  counted_alike : (figures : List ℕ) → answer ≡ delivered figures → (space : ℕ) → Enough (at6250 backward words maps) space
      → (told : List ℕ) × (read_answer (at6250 backward words maps) space ≡ delivered told) × (counts_told bpi6250 told ≡ track_changes backward words maps)
  unfolding Enough read_answer counts_told log_answer
  counted_alike figures e space enough =
      let passed = log_passed backward words maps (length before) figures (sym answers ∙ e) in
      let logged-if = retold_delivered _ (answer_if backward words maps (leb (log_space (length maps)) (length before))) figures (sym answers ∙ e) in
      let judged-is = sym (all_passed backward words maps _ passed.0.lengths (le-leb _ _ passed.1) (le_of_eq (sym passed.0.no_stray))) ∙ logged-if.1 in
      let is = answer_passed backward words maps passed.0 space enough ∙ judged-is in
      (_, is, ap (drop 2) (delivery_is backward words maps space _ is))

  pub logs : Logs backward words maps answer before after
  logs = record {
    reads_back = λ figures e space h.
        let passes = (log_passed backward words maps (length before) figures (sym answers ∙ e)).0 in (
          ap (λ (l : List ℕ). read_log_answer (length maps) l space) (front figures e) ∙ reading_log_delivered backward words maps passes space h,
          ap (maps_of (length maps)) (front figures e) ∙ reading_log_back backward words maps passes,
        );
    as_counted = counted_alike;
    as_turned = (answers ∙ sym (log_answer_turned backward words maps (length before)), turned_output);
  }

  -- ---- of the one record that fits

  module _ (passes : six.Passes backward words maps) (room : log_space (length maps) ≤ length before) where
    judged : answer_if backward words maps (leb (log_space (length maps)) (length before)) ≡ judged_answer backward words maps
    judged = all_passed backward words maps _ passes.lengths (le-leb _ _ room) (le_of_eq (sym passes.no_stray))

    delivers : (bytes : List ℕ) → OneFits (at6250 backward words maps) bytes
        → (answer ≡ delivered (length (log_of (maps_changed backward words maps bytes)) ∷ []))
        × (reading_log backward words maps ≡ log_of (maps_changed backward words maps bytes))
    unfolding Fits log_answer reading_log
    delivers bytes one =
        let is = ap log_of (maps_changed_lem backward words maps passes bytes one.fits) in (
          answers
              ∙ ap (logged (length (reading_log backward words maps))) (judged ∙ (fits_delivered backward words maps passes bytes one.fits).0)
              ∙ ap (λ (l : List ℕ). delivered (length l ∷ [])) is,
          is,
        )

    has_one : (figures : List ℕ) → answer ≡ delivered figures → (bytes : List ℕ) × OneFits (at6250 backward words maps) bytes
    unfolding Fits log_answer
    has_one figures e =
        let told = retold_delivered _ (answer_if backward words maps (leb (log_space (length maps)) (length before))) figures (sym answers ∙ e) in
        let f = delivered_fits backward words maps passes told.0 (sym judged ∙ told.1) in (
          read_data backward words maps,
          record { fits = f; only = λ others g. only_one backward words maps passes others (read_data backward words maps) g f },
        )

    differs : (bytes figures : List ℕ) → Fits (at6250 backward words maps) bytes → answer ≡ delivered figures → (g k : ℕ) → g < length maps → k < tracks
        → bit k (get_or (maps_of (length maps) (take (length_told figures) after)) g 0)
        ≡ cond (eqb (get_or (read_group backward words maps g) k 0) (get_or (group_read false (length maps) (written_record bpi6250 bytes) g) k 0)) 0 1
    unfolding Fits written_record maps_changed
    differs bytes figures fits e g k h b =
        ap (λ (l : List ℕ). bit k (get_or (maps_of (length maps) l) g 0)) (front figures e)
        ∙ ap (λ (l : List ℕ). bit k (get_or l g 0)) (reading_log_back backward words maps passes ∙ maps_changed_lem backward words maps passes bytes fits)
        ∙ ap (bit k) (get_d_tabulate (length maps) _ g 0 h)
        ∙ bit_changed tracks (read_group backward words maps g) (group_read false (length maps) (written_record bpi6250 bytes) g) k b

    pub log_decides : DecidesLog backward words maps answer before after
    log_decides = record {
      decided = decides (at6250 backward words maps) _ _ answer (reading_log backward words maps) before after stores delivers has_one;
      marked = differs;
    }
