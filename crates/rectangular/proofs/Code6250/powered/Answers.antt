-- `rectangular::Code6250::powered` meets its contract: powers count modulo the exponent.
-- Assumes nothing.
use Rattle.std.proofs.Common.{rules, arith, ◌≡◌, refl, sym, ap, ◌∙◌, ℕ, ◌%◌, add-one}
use Rattle.register.specs.Shift.{shifts}
use Rattle.register.proofs.Exponent.{shifts_mod}
use Rattle.rectangular.specs.Constants.{feedback, exponent, times_t, times_power}
use Rattle.rectangular.proofs.Constants.{exponent_of_T}
use Rattle.rectangular.proofs.Code6250.powered.Goals as goal

pub loop-init : goal.loop-init
unfolding times_power shifts
loop-init c = refl

pub loop-preserved : goal.loop-preserved
unfolding times_power times_t shifts
loop-preserved c =
    c.shifted-code.ensures
    ∙ ap times_t c.loop.invariant
    ∙ ap (λ (k : ℕ). times_power k c.args.self.register) (sym (add-one c.loop.counter))

pub returns : goal.returns
unfolding times_power
returns c =
    let all : c.loop.counter ≡ c.args.power % exponent = omega arith in
    c.loop.invariant
    ∙ ap (λ (k : ℕ). times_power k c.args.self.register) all
    ∙ shifts_mod 8 feedback exponent exponent_of_T (omega arith) c.args.power c.args.self.register (search rules)
