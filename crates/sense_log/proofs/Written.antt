-- The log of a reading: what writing it answers, that it has space, that it reads back to the reading's changed tracks, and that it is the
-- same for the reading turned.
-- Assumes nothing.
use mathlib.Core.Path.{◌≡◌, sym, ap, ◌∙◌}
use mathlib.Core.Bool.{Bool, true, not}
use mathlib.Core.List.{List, [], ◌∷◌}
use Prim.Native.Nat.{ℕ, ◌≤◌}
use native.Mathlib.Omega.{arith}
use lib.Dec.{leb}
use lib.ListN.{length}
use borrow.Author.Tests.{leb-true}
use Rattle.answer.specs.Answer.{delivered}
use Rattle.answer.proofs.Retold.{retold_delivered, retold_same}
use Rattle.record6250.specs.Fits.{Passes}
use Rattle.record6250.specs.Picture.{picture_maps, turned_numbers}
use Rattle.record6250.specs.Read.{lengths_suit, changed_maps, changes, track_changes, answer_if}
use Rattle.record6250.proofs.Answer.{delivered_if}
use Rattle.record6250.proofs.Backward.{answer_turned, turned_changed}
use Rattle.record6250.proofs.Counted.{length_changed, changed_below, ones_changed}
use Rattle.record6250.proofs.Picture.{length_maps}
use Rattle.record6250.proofs.Reading.{groups_within}
use Rattle.sense_log.specs.Back.{maps_of, read_log_answer}
use Rattle.sense_log.specs.Log.{log_space, log_of, marks, track_marks}
use Rattle.sense_log.specs.Written.{logged, reading_log, log_answer}
use Rattle.sense_log.proofs.Back.{maps_back, log_delivered}
use Rattle.sense_log.proofs.Bits.{length_log, bits_below}

-- a log has space where there are two bytes for every group
pub log_within : (maps : List ℕ) → length (log_of maps) ≤ log_space (length maps)
log_within maps = omega (arith, length_log maps, bits_below maps (length maps))

module _ (backward : Bool) (words maps : List ℕ) where
  as_many : length (changed_maps backward words maps) ≡ length maps
  as_many = length_changed backward words maps

  -- the marks of a reading's log are the words that are changed
  pub marks_changed : marks (changed_maps backward words maps) ≡ changes backward words maps
  unfolding marks
  marks_changed = ones_changed backward words maps

  -- what a delivery says
  pub log_passed : (space : ℕ) (figures : List ℕ) → log_answer backward words maps space ≡ delivered figures
      → Passes backward words maps × (log_space (length maps) ≤ space) × (figures ≡ length (reading_log backward words maps) ∷ [])
  unfolding log_answer
  log_passed space figures e =
      let told = retold_delivered _ (answer_if backward words maps (leb (log_space (length maps)) space)) figures e in
      let passed = delivered_if backward words maps (leb (log_space (length maps)) space) told.0 told.1 in
      (passed.0, leb-true (log_space (length maps)) space passed.1, told.2)

  pub reading_log_within : length (reading_log backward words maps) ≤ log_space (length maps)
  unfolding reading_log
  reading_log_within = omega (arith, log_within (changed_maps backward words maps), as_many)

  -- the log of a reading of 1 to 586 groups reads back to its changed tracks
  module _ (passes : Passes backward words maps) where
    pub reading_log_back : maps_of (length maps) (reading_log backward words maps) ≡ changed_maps backward words maps
    unfolding reading_log
    reading_log_back =
        ap (λ (n : ℕ). maps_of n (log_of (changed_maps backward words maps))) (sym as_many) ∙ maps_back (changed_maps backward words maps)

    pub reading_log_delivered : (space : ℕ) → length maps ≤ space
        → read_log_answer (length maps) (reading_log backward words maps) space ≡ delivered (track_changes backward words maps)
    unfolding reading_log track_marks track_changes
    reading_log_delivered space h =
        let within = groups_within backward words maps passes in
        ap (λ (n : ℕ). read_log_answer n (log_of (changed_maps backward words maps)) space) (sym as_many)
        ∙ log_delivered (changed_maps backward words maps) (omega (arith, as_many, within.0)) (omega (arith, as_many, within.1))
        (λ g h. omega (arith, changed_below backward words maps g (omega (arith, as_many)))) space (omega (arith, as_many))

  -- ---- the same reading turned

  pub log_turned : lengths_suit (length words) (length maps) ≡ true
      → reading_log (not backward) (turned_numbers words) (picture_maps true maps) ≡ reading_log backward words maps
  unfolding reading_log
  log_turned e = ap log_of (turned_changed backward words maps e)

  -- whatever the lengths, the answer is the same
  pub log_answer_turned : (space : ℕ)
      → log_answer (not backward) (turned_numbers words) (picture_maps true maps) space ≡ log_answer backward words maps space
  unfolding log_answer
  log_answer_turned space =
      let enough : Bool = leb (log_space (length maps)) space in
      ap (logged (length (reading_log (not backward) (turned_numbers words) (picture_maps true maps))))
      (ap (λ (n : ℕ). answer_if (not backward) (turned_numbers words) (picture_maps true maps) (leb (log_space n) space)) (length_maps true maps)
      ∙ answer_turned backward words maps enough)
      ∙ retold_same _ _ (answer_if backward words maps enough)
      (λ told e. ap (λ (l : List ℕ). length l ∷ []) (log_turned (delivered_if backward words maps enough told e).0.lengths))
