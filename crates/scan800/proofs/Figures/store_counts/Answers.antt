-- `scan800::Figures::store_counts` meets its contract, by whether there is a track, and whether it is one of the nine.
-- Assumes nothing.
use native.Mathlib.Omega.{arith}
use Rattle.indexed.proofs.Only.{only_set, only_none}
use Rattle.record800.specs.Read.{track_changes}
use Rattle.scan800.proofs.Figures.store_counts.Goals as goal

pub returns-then-track-lt-TRACKS : goal.returns-then-track-lt-TRACKS
unfolding track_changes
returns-then-track-lt-TRACKS c = rw c.in-Some.is (only_set 9 _ _ c.if-track-lt-TRACKS.true)

pub returns-else-track-lt-TRACKS : goal.returns-else-track-lt-TRACKS
unfolding track_changes
returns-else-track-lt-TRACKS c = rw c.in-Some.is (only_none 9 _ _ c.if-track-lt-TRACKS.false)

pub returns-in_default : goal.returns-in_default
unfolding track_changes
returns-in_default c = rw c.in_default.is (only_none 9 9 _ (omega arith))
