-- `judge800::pattern::unshifted` meets its contract. The loop's invariant: the pattern is the register, shifted as often as the loop has turned.
-- Assumes nothing.
use mathlib.Core.Path.{◌≡◌}
use Rattle.register.specs.Shift.{shifts}
use Rattle.cyclic.specs.Constants.{feedback}
use Rattle.judge800.proofs.pattern.unshifted.Given as goal

abbrev pub invariant-loop : goal.invariant-loop
invariant-loop l = l.pattern ≡ shifts 9 feedback l.counter l.error
