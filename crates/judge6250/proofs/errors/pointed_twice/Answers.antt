-- `judge6250::errors::pointed_twice` meets its contract.
-- Assumes nothing.
use mathlib.Core.Path.{ap}
use Prim.Native.Nat.{ℕ}
use Rattle.register.specs.Xor.{◌⊕◌}
use Rattle.rectangular.specs.Syndrome.{errors_in, two_errors}
use Rattle.judge6250.proofs.errors.pointed_twice.Goals as goal

pub returns : goal.returns
unfolding two_errors
returns c =
    let args = c.args in
    ap (λ (other : ℕ). errors_in args.first (args.s1 ⊕ other) args.second other) c.second_error-other.ensures
