-- `cyclic::shift` meets its contract, by the laws of a shift at 9 bits that pushes no digit out, and of one that does.
-- Assumes nothing.
use mathlib.Core.Path.{sym, ap, ◌∙◌}
use Prim.Native.Nat.{ℕ}
use native.Mathlib.Nat.{mul_comm}
use native.Mathlib.Omega.{arith}
use Rattle.register.specs.Xor.{◌⊕◌}
use Rattle.register.proofs.Shift.{shift_low, shift_high}
use Rattle.cyclic.specs.Constants.{feedback, times_x}
use Rattle.cyclic.proofs.shift.Goals as goal

pub returns-then-a-le-NO_CARRY : goal.returns-then-a-le-NO_CARRY
unfolding times_x
returns-then-a-le-NO_CARRY c = omega (arith, shift_low 9 feedback c.args.a (omega arith))

pub returns-else-a-le-NO_CARRY : goal.returns-else-a-le-NO_CARRY
unfolding times_x
returns-else-a-le-NO_CARRY c =
    let a = c.args.a in
    ap (λ (x : ℕ). x ⊕ 633) (mul_comm a 2) ∙ sym (shift_high 9 feedback a (omega arith) (omega arith) (omega arith))
