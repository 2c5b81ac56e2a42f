-- X has the exponent 17 modulo G, and X G2 = G2 modulo G (document 003, equation (5)); what X^9 leaves, and G2, are odd.
-- Assumes nothing.
use mathlib.Core.Path.{◌≡◌, refl}
use Prim.Native.Nat.{pred}
use Rattle.register.specs.Parity.{parity, parity_digits}
use Rattle.register.specs.Shift.{shift, shifts}
use Rattle.register.specs.Exponent.{Exponent}
use Rattle.register.proofs.Exponent as Register
use Rattle.cyclic.specs.Constants.{feedback, exponent, offset, times_x}

pub exponent_of_X : Exponent 9 feedback exponent
unfolding shift shifts
exponent_of_X = Register.exponent 9 feedback (pred exponent) tt tt

pub X_keeps_offset : times_x offset ≡ offset
unfolding times_x shift
X_keeps_offset = refl

-- G has the factor 1 + X, so it has an even number of terms, and the shift keeps parity
pub feedback_odd : parity feedback ≡ 1
unfolding parity parity_digits
feedback_odd = refl

pub offset_odd : parity offset ≡ 1
unfolding parity parity_digits
offset_odd = refl
