-- The columns are those of the powers of T: a test of every byte. So they give what the code's register gives.
-- Assumes nothing.
use mathlib.Core.Path.{◌≡◌}
use Prim.Native.Nat.{ℕ, ◌-◌, ◌<◌}
use Rattle.indexed.proofs.Test.{equal}
use Rattle.register.specs.Matrix.{product}
use Rattle.register.specs.Shift.{shift, shifts}
use Rattle.rectangular.specs.Constants.{feedback, exponent}
use Rattle.remainder.specs.Power.{eighth_power, seventh_inverse}

pub eighth_is : (b : ℕ) → b < 256 → product eighth_power b ≡ shifts 8 feedback 8 b
unfolding shift shifts
eighth_is = equal 256 (product eighth_power) (shifts 8 feedback 8) tt

pub seventh_inverse_is : (b : ℕ) → b < 256 → product seventh_inverse b ≡ shifts 8 feedback (exponent - 7) b
unfolding shift shifts
seventh_inverse_is = equal 256 (product seventh_inverse) (shifts 8 feedback (exponent - 7)) tt
