-- `text::line::line_at` meets its contract. The loop's invariant: what is left of the line is read as the whole of it is. Every turn
-- passes a byte at least.
-- Assumes nothing.
use Rattle.std.proofs.Common.{◌≡◌, ◌≤◌, ◌-◌, length}
use Rattle.text.specs.Line.{line_at}
use Rattle.text.proofs.Lines.{Rest}
use Rattle.text.proofs.line.line_at.Given as goal

abbrev pub invariant-loop-end : goal.invariant-loop-end
invariant-loop-end l = record {
  onward : l.at ≤ l.end;
  within : l.end ≤ length l.text;
  fewer : l.count ≤ l.end;
  kept : length l.row ≡ length l.initial.row;
  left : Rest l.text (line_at l.text l.at l.initial.row) l.count l.end l.row;
}

abbrev pub decreases-loop-end : goal.decreases-loop-end
decreases-loop-end l = length l.text - l.end
