-- `marks::marks::put_marks` meets its contract. The loop's invariant: the first i marks are those of their columns and tracks, and
-- behind them stands what stood there.
-- Assumes nothing.
use Rattle.std.proofs.Common.{◌≡◌, ℕ, ◌/◌, ◌%◌, ◌<◌, ◌≤◌, length, get_or}
use Rattle.rectangular.specs.Constants.{tracks}
use Rattle.marks.proofs.marks.put_marks.Given as goal

abbrev pub invariant-loop-i : goal.invariant-loop-i
invariant-loop-i g l = record {
  kept : length l.marks ≡ length l.initial.marks;
  front : (k : ℕ) → k < l.i → goal.F-post g l.mark (k / tracks) (k % tracks) (get_or l.marks k 0);
  behind : (k : ℕ) → l.i ≤ k → get_or l.marks k 0 ≡ get_or l.initial.marks k 0;
}
