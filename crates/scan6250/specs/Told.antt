-- What the code tells of a reading, and what it has gathered of it.
-- Assumes nothing.
use Rattle.std.specs.Prelude.{ℕ, ◌*◌, Bool, cond, List, Result, ◌∷◌, ◌++◌, ltb, length, drop}
use Rattle.indexed.specs.List.{tabulate, blocks}
use Rattle.answer.specs.Answer.{Answer, delivered, refused_for, told}
use Rattle.answer.specs.declared.Refusal.{Refusal}
use Rattle.answer.specs.declared.Reason.TheVariants.{Padding}
use Rattle.rectangular.specs.Constants.{bytes_per_group}
use Rattle.record6250.specs.Group.{reason_of, right_bytes}
use Rattle.record6250.specs.Read.{judgement, changed_tracks, first_stray, first_unfit, changes, track_changes, padding_suits, unpadded}
use Rattle.track_counts.specs.Counts.{counts_told}
use Rattle.track_counts.specs.declared.Counts.{Counts}
use Rattle.scan6250.specs.declared.Figures.{Figures}

-- a delivery tells the data's length, how many words differ from the record that is delivered, and how many in each track
abbrev pub told_read : Result Figures Refusal → Answer
told_read = told (λ figures. figures.length ∷ figures.changes ∷ counts_told figures.counts)

abbrev pub told_gathered : Result (ℕ × Counts) Refusal → Answer
told_gathered = told (λ gathered. gathered.0 ∷ counts_told gathered.1)

-- the answer for the corrected bytes of a record whose groups all fit, with these changes: their number, and that of each track
unfoldable pub padding_answer : List ℕ → List ℕ → Answer
padding_answer bytes changed =
    cond (padding_suits bytes) (delivered (length (unpadded bytes) ∷ changed)) (refused_for Padding 0)

module _ (backward : Bool) (words maps : List ℕ) where
  -- what the groups of a reading come to, before the padding is looked at
  unfoldable pub groups_answer : Answer
  groups_answer =
      cond (ltb (first_unfit backward words maps) (length maps))
      (refused_for (reason_of (judgement backward words maps (first_unfit backward words maps))) (first_unfit backward words maps))
      (delivered (changes backward words maps ∷ track_changes backward words maps))

  -- how many groups are gathered: those before the first that nothing fits, and none where a bit is stray
  unfoldable pub reached : ℕ
  reached = cond (ltb (first_stray backward words maps) (length maps)) 0 (first_unfit backward words maps)

  -- what the two lent slices hold once so many groups are gathered
  unfoldable pub bytes_gathered : ℕ → List ℕ → List ℕ
  bytes_gathered n before = blocks n (λ g. right_bytes (judgement backward words maps g)) ++ drop (bytes_per_group * n) before

  unfoldable pub maps_gathered : ℕ → List ℕ → List ℕ
  maps_gathered n before = tabulate n (changed_tracks backward words maps) ++ drop n before
