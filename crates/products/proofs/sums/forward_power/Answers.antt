-- `products::sums::forward_power` meets its contract: X^i x fits, and is reduced.
-- Assumes nothing.
use mathlib.Core.Path.{sym, ap, ◌∙◌}
use Prim.Native.Nat.{ℕ, ◌/◌, ◌%◌}
use borrow.Author.Rules.{rules}
use Rattle.register.specs.Shift.{shifts}
use Rattle.register.specs.Xor.{◌⊕◌}
use Rattle.rectangular.specs.Constants.{feedback}
use Rattle.products.proofs.Check.{term, term_fits}
use Rattle.products.proofs.sums.forward_power.Goals as goal

pub returns : goal.returns
returns c =
    let args = c.args in
    c.reduced_sum.ensures
    ∙ ap (λ (u : ℕ). (u % 256) ⊕ shifts 8 feedback 8 (u / 256 % 128)) (term_fits args.i args.x (search rules) (search rules))
    ∙ sym (term args.i args.x (search rules) (search rules))
