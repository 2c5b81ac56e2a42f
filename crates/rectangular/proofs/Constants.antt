-- T has the exponent 17.
-- Assumes nothing.
use Prim.Native.Nat.{pred}
use Rattle.register.specs.Shift.{shift, shifts}
use Rattle.register.specs.Exponent.{Exponent}
use Rattle.register.proofs.Exponent as Register
use Rattle.rectangular.specs.Constants.{feedback, exponent}

pub exponent_of_T : Exponent 8 feedback exponent
unfolding shift shifts
exponent_of_T = Register.exponent 8 feedback (pred exponent) tt tt
