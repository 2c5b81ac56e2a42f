-- `track_counts::Counts::numbers` meets its contract. The loop's invariant: the tracks so far have their numbers.
-- Assumes nothing.
use mathlib.Core.Path.{◌≡◌}
use Prim.Native.Nat.{ℕ, ◌<◌}
use lib.ListN.{length, get_or}
use Rattle.track_counts.specs.Counts.{counts_told}
use Rattle.track_counts.proofs.Counts.numbers.Given as goal

abbrev pub invariant-loop-track : goal.invariant-loop-track
invariant-loop-track l =
    (length l.number-items ≡ 9) × ((k : ℕ) → k < l.track → get_or l.number-items k 0 ≡ get_or (counts_told l.self) k 0)
