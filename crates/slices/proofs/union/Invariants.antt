-- `slices::union` meets its contract. The loop's invariant: the first values are gathered.
-- Assumes nothing.
use Rattle.std.proofs.Common.{◌≡◌}
use Rattle.slices.specs.Union.{union_to}
use Rattle.slices.proofs.union.Given as goal

abbrev pub invariant-loop-value : goal.invariant-loop-value
invariant-loop-value l = l.bits ≡ union_to l.value-index l.values
