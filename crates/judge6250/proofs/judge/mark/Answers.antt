-- `judge6250::judge::mark` meets its contract.
-- Assumes nothing.
use mathlib.Core.Path.{sym, ap, ◌∙◌}
use mathlib.Core.Bool.{Bool, cond}
use Prim.Native.Nat.{◌^◌}
use borrow.Author.Rules.{rules}
use borrow.Author.Tests.{eq-eqb, ne_eqb}
use Rattle.judge6250.specs.Told.{mark_at}
use Rattle.judge6250.proofs.Corrected.{mark_fits}
use Rattle.judge6250.proofs.judge.mark.Goals as goal

pub returns-then-error-eq0 : goal.returns-then-error-eq0
unfolding mark_at
returns-then-error-eq0 c =
    let args = c.args in
    sym (ap (λ (b : Bool). cond b 0 (2 ^ args.track)) (eq-eqb args.error 0 c.if-error-eq0.true))

pub returns-else-error-eq0 : goal.returns-else-error-eq0
unfolding mark_at
returns-else-error-eq0 c =
    let args = c.args in
    mark_fits args.track (search rules)
    ∙ sym (ap (λ (b : Bool). cond b 0 (2 ^ args.track)) (ne_eqb args.error 0 c.if-error-eq0.false))
