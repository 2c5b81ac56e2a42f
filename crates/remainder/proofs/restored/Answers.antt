-- `remainder::restored` meets its contract: every entry is computed.
-- Assumes nothing.
use mathlib.Core.Path.{refl}
use borrow.Author.Rules.{rules}
use Rattle.indexed.specs.List.{tabulate, tabulate_from}
use Rattle.indexed.proofs.Tabulate.{ruled}
use Rattle.register.specs.Matrix.{product}
use Rattle.remainder.specs.Power.{seventh_inverse}
use Rattle.remainder.proofs.restored.Goals as goal

pub returns : goal.returns
unfolding tabulate tabulate_from
returns c = ruled _ 256 (product seventh_inverse) refl c.args.low 0 (search rules)
