-- `report::line::count_marks` meets its contract. The loop's invariant: the bits of the first maps are counted.
-- Assumes nothing.
use mathlib.Core.Path.{◌≡◌}
use Prim.Native.Nat.{◌*◌, ◌≤◌}
use lib.Count.{ones}
use lib.ListN.{get_or}
use Rattle.indexed.specs.List.{total}
use Rattle.report.proofs.line.count_marks.Given as goal

abbrev pub invariant-loop-map : goal.invariant-loop-map
invariant-loop-map l = (l.count ≤ 16 * l.map-index) × (l.count ≡ total l.map-index (λ g. ones (get_or l.maps g 0)))
