-- `text::number::faulty` meets its contract. The loop's invariant: what is still to be scanned, from the fault so far,
-- is what was to be scanned at the start.
-- Assumes nothing.
use Rattle.std.proofs.Common.{◌≡◌, ◌≤◌, ◌-◌, length, drop, Err}
use Rattle.text.specs.Number.{scanned}
use Rattle.text.proofs.number.faulty.Given as goal

abbrev pub invariant-loop-end : goal.invariant-loop-end
invariant-loop-end l = record {
  within : l.end ≤ length l.text;
  left : scanned (Err l.cause) l.end (drop l.end l.text) ≡ scanned (Err l.fn.cause) l.at (drop l.at l.text);
}

abbrev pub decreases-loop-end : goal.decreases-loop-end
decreases-loop-end l = length l.text - l.end
