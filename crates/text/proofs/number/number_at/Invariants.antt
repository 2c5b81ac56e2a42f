-- `text::number::number_at` meets its contract. The loop's invariant: what is still to be scanned, from the value so far,
-- is what was to be scanned at the start.
-- Assumes nothing.
use Rattle.std.proofs.Common.{◌≡◌, ◌≤◌, ◌-◌, length, drop, Ok}
use Rattle.text.specs.Number.{scanned}
use Rattle.text.proofs.number.number_at.Given as goal

abbrev pub invariant-loop-end : goal.invariant-loop-end
invariant-loop-end l = record {
  within : l.end ≤ length l.text;
  left : scanned (Ok l.value) l.end (drop l.end l.text) ≡ scanned (Ok 0) l.at (drop l.at l.text);
}

abbrev pub decreases-loop-end : goal.decreases-loop-end
decreases-loop-end l = length l.text - l.end
