-- `judge6250::errors::located_likely` meets its contract: a track in which S1 accounts for S2 is the only one, and so the first.
-- Assumes nothing.
use mathlib.Core.Path.{sym, ◌∙◌}
use native.Mathlib.Omega.{arith}
use borrow.Author.Rules.{rules}
use Rattle.rectangular.specs.Constants.{feedback}
use Rattle.rectangular.proofs.Errors.{first_accounting_lem}
use Rattle.rectangular.proofs.Suits.{nine_tracks}
use Rattle.indexed.proofs.Found.{index_found}
use Rattle.judge6250.proofs.errors.located_likely.Goals as goal

pub returns-then-weight-s2 : goal.returns-then-weight-s2
returns-then-weight-s2 c =
    let args = c.args in
    index_found 9 _ args.likely
    (first_accounting_lem 8 feedback args.s1 args.s2 nine_tracks (search rules) c.if-s1-ne0.true args.likely
    (omega (arith, c.requires)) (sym c.weight.ensures ∙ c.if-weight-s2.true))
    c.requires
