-- `marks::forward::reversed_word` meets its contract. The loop's invariant: the first k bits are turned.
-- Assumes nothing.
use mathlib.Core.Path.{◌≡◌}
use Rattle.group_code.specs.Word.{mirrored}
use Rattle.marks.proofs.forward.reversed_word.Given as goal

abbrev pub invariant-loop-k : goal.invariant-loop-k
invariant-loop-k l = l.reversed ≡ mirrored l.k l.word
