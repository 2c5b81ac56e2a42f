-- `rectangular::Code6250::shifted` meets its contract, by the law of a shift at 8 bits.
-- Assumes nothing.
use mathlib.Core.Path.{sym}
use Rattle.register.proofs.Shift.{shift_parts}
use Rattle.rectangular.specs.Constants.{feedback, times_t}
use Rattle.rectangular.proofs.Code6250.shifted.Goals as goal

pub returns : goal.returns
unfolding times_t
returns c = sym (shift_parts 7 feedback c.args.self.register)
