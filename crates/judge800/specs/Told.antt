-- What the code tells of the tracks that it tried.
-- Assumes nothing.
use Rattle.std.specs.Prelude.{ℕ, List, [], ◌∷◌, Result, Ok, Err, length}
use Rattle.answer.specs.declared.Reason.{Reason}
use Rattle.answer.specs.declared.Reason.TheVariants as reason
use Rattle.judge800.specs.declared.track.Unlocated.{Unlocated}
use Rattle.judge800.specs.declared.track.Unlocated.TheVariants.{NoRecord, SeveralRecords}

-- by the tracks that hold: the one, or why there is no single one, with how many there are and the first of them
abbrev pub one_found : List ℕ → Result ℕ Unlocated
one_found [] = Err NoRecord
one_found (j ∷ []) = Ok j
one_found (i ∷ j ∷ more) = Err (SeveralRecords (length (i ∷ j ∷ more)) i)

-- the reason of document 01's table that a call gives
abbrev pub reason_of : Unlocated → Reason
reason_of NoRecord = reason.NoRecord
reason_of (SeveralRecords count first) = reason.SeveralRecords
