-- `judge800::pattern::unshifted` meets its contract. The loop's invariant: the pattern is the register, shifted as often as the loop has turned.
-- Assumes nothing.
use mathlib.Core.Path.{refl, sym, ap, ◌∙◌}
use Prim.Native.Nat.{ℕ}
use native.Mathlib.Numerals.{add-one}
use native.Mathlib.Omega.{arith}
use Rattle.register.specs.Shift.{shifts}
use Rattle.register.proofs.Shift.{shifts_lt}
use Rattle.cyclic.specs.Constants.{feedback, times_x}
use Rattle.judge800.proofs.pattern.unshifted.Goals as goal

pub loop-init : goal.loop-init
unfolding shifts
loop-init c = refl

pub shift-pattern-requires : goal.shift-pattern-requires
shift-pattern-requires c =
    let at = c.loop in
    rw at.invariant (shifts_lt 9 feedback at.counter _ (omega arith) c.requires)

pub loop-preserved : goal.loop-preserved
unfolding shifts times_x
loop-preserved c =
    let at = c.loop in
    c.shift-pattern.ensures
    ∙ ap times_x at.invariant
    ∙ ap (λ (n : ℕ). shifts 9 feedback n c.args.error) (sym (add-one at.counter))
