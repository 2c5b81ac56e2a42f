-- `rectangular::Code6250::powered` meets its contract. The loop's invariant: the register was shifted as often as was counted.
-- Assumes nothing.
use Rattle.std.proofs.Common.{◌≡◌}
use Rattle.rectangular.specs.Constants.{times_power}
use Rattle.rectangular.proofs.Code6250.powered.Given as goal

abbrev pub invariant-loop : goal.invariant-loop
invariant-loop l = l.code.register ≡ times_power l.counter l.fn.self.register
