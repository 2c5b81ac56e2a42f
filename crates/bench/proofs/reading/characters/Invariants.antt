-- `bench::reading::characters` is safe: what is stored is within the space.
-- Assumes nothing.
use Rattle.std.proofs.Common.{◌≡◌, ◌≤◌, length}
use Rattle.bench.proofs.reading.characters.Given as goal

abbrev pub invariant-loop-n : goal.invariant-loop-n
invariant-loop-n l =
    (goal.iterator-loop-n).can_next l.n-iterator × (goal.iterator-loop-n).is_finite l.n-iterator × (l.stored ≤ length l.characters) × (length l.characters ≡ length l.initial.characters)
