-- `remainder::reduced` meets its contract: every entry is computed.
-- Assumes nothing.
use mathlib.Core.Path.{refl}
use Rattle.indexed.specs.List.{tabulate, tabulate_from}
use Rattle.indexed.proofs.Tabulate.{ruled}
use Rattle.register.specs.Matrix.{product}
use Rattle.remainder.specs.Power.{eighth_power}
use Rattle.remainder.proofs.reduced.Goals as goal

pub returns : goal.returns
unfolding tabulate tabulate_from
returns c = ruled _ 128 (product eighth_power) refl c.args.high 0 c.requires
