-- `bench::reading::groups` is safe: what is stored is within the space.
-- Assumes nothing.
use Rattle.std.proofs.Common.{◌≡◌, ◌≤◌, length}
use Rattle.bench.proofs.reading.groups.Given as goal

abbrev pub invariant-loop-n : goal.invariant-loop-n
invariant-loop-n l =
    (goal.iterator-loop-n).can_next l.n-iterator × (goal.iterator-loop-n).is_finite l.n-iterator × (l.stored ≤ length l.maps) × (length l.words ≡ length l.initial.words) × (length l.maps ≡ length l.initial.maps)
