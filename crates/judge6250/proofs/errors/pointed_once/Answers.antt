-- `judge6250::errors::pointed_once` meets its contract.
-- Assumes nothing.
use mathlib.Core.Path.{refl, sym, ◌∙◌}
use mathlib.Core.Bool.{true, false}
use mathlib.Core.List.{[], ◌∷◌}
use native.Mathlib.Omega.{arith}
use borrow.Author.Tests.{eq-eqb, ne_eqb}
use Rattle.judge6250.proofs.Judging.{one_is, one_none, first_of_one}
use Rattle.judge6250.proofs.errors.pointed_once.Goals as goal

pub returns-then-weight-s2 : goal.returns-then-weight-s2
returns-then-weight-s2 c =
    let args = c.args in
    let fits = eq-eqb _ _ (sym c.weight.ensures ∙ c.if-weight-s2.true) in
    one_is args.s1 args.s2 (args.track ∷ []) 0 (first_of_one args.s1 args.s2 args.track true fits)
    (omega arith) args.track refl _ c.one.ensures

pub returns-else-weight-s2 : goal.returns-else-weight-s2
returns-else-weight-s2 c =
    let args = c.args in
    let fails = ne_eqb _ _ (λ e. c.if-weight-s2.false (c.weight.ensures ∙ e)) in
    one_none args.s1 args.s2 (args.track ∷ []) 1 (first_of_one args.s1 args.s2 args.track false fails) (omega arith)
