-- What reading a log back answered and stored, as the report has it.
-- Assumes nothing.
use Prim.Native.Nat.{ℕ, ◌≤◌}
use mathlib.Core.Path.{◌≡◌, sym, ap, ◌∙◌}
use mathlib.Core.List.{List}
use lib.ListN.{length, take, drop}
use lib.Seq.{take_at}
use Rattle.answer.specs.Answer.{Answer, delivered, number_of, output_after}
use Rattle.answer.specs.declared.Refusal.{Refusal}
use Rattle.answer_text.specs.Refusal.{refusal_text}
use Rattle.sense_log.proofs.Answer.{back_delivered}
use Rattle.sense_log.proofs.Back.{length_maps_of}
use Rattle.sense_log.proofs.Marks.{most_marks_lem}
use Rattle.log_reader.specs.Told.{told_back}
use Rattle.std.specs.Prelude.{None, Result, Ok, Err}
use Rattle.page.specs.Page.{PageText, Printed}
use Rattle.track_counts.specs.Counts.{counts_told}
use Rattle.track_counts.specs.declared.Counts.{Counts}
use Rattle.sense_log.specs.Back.{maps_of}
use Rattle.report.specs.Made.{LogPut}
use Rattle.report.specs.Report.{maps_lent, most_marks, answer_of, marks_of}

module _ (groups : ℕ) (log : List ℕ) where
  -- a delivery has space for its maps, and its marks are few
  module _ (figures : List ℕ) (is : answer_of groups log ≡ delivered figures) where
    pub maps_fit : groups ≤ maps_lent
    maps_fit = (back_delivered groups log maps_lent figures is).0

    pub marks_few : marks_of groups log ≤ most_marks
    marks_few = most_marks_lem groups log maps_lent figures is

  module _ (r : Result Counts Refusal) (told : told_back r ≡ answer_of groups log) where
    pub is_delivered : (marks : Counts) → r ≡ Ok marks → answer_of groups log ≡ delivered (counts_told marks)
    is_delivered marks e = sym told ∙ ap told_back e

    -- the line of a refusal is the last
    pub refusal_put : (refusal : Refusal) → r ≡ Err refusal → (total : ℕ) (page page' : PageText)
        → Printed (refusal_text (number_of refusal.reason) refusal.place) page page' → LogPut groups log total page page' None
    refusal_put refusal e total page page' put = (number_of refusal.reason, refusal.place, sym told ∙ ap told_back e, put)

    -- the maps of the groups stand at the front
    pub maps_in_front : (marks : Counts) → r ≡ Ok marks → (before after : List ℕ) → after ≡ output_after (told_back r) (maps_of groups log) before → take groups after ≡ maps_of groups log
    unfolding output_after
    maps_in_front marks e before after stored =
        ap (take groups) (stored ∙ ap (λ (a : Answer). output_after a (maps_of groups log) before) (ap told_back e))
        ∙ take_at (maps_of groups log) (drop (length (maps_of groups log)) before) groups (length_maps_of groups log)
