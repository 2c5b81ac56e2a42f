-- `marks::marks::Runs::is_right` meets its contract. The loop's invariant: the characters passed are as they were delivered.
-- Assumes nothing.
use Rattle.std.proofs.Common.{◌≡◌, ℕ, ◌+◌, ◌<◌, true}
use Rattle.marks.specs.Marks.{character_right}
use Rattle.marks.proofs.marks.Runs.is_right.Given as goal

abbrev pub invariant-loop-k : goal.invariant-loop-k
invariant-loop-k l = (j : ℕ) → j < l.k → character_right l.self.view.backward l.self.characters.now l.self.right.now l.track (l.from + j) ≡ true
