-- `scan800::parity::parity` meets its contract: every entry is computed.
-- Assumes nothing.
use mathlib.Core.Path.{refl}
use Rattle.indexed.specs.List.{tabulate, tabulate_from}
use Rattle.indexed.proofs.Tabulate.{ruled}
use Rattle.register.specs.Parity.{parity, parity_digits}
use Rattle.scan800.proofs.parity.parity.Goals as goal

pub returns : goal.returns
unfolding tabulate tabulate_from parity parity_digits
returns c = ruled _ 512 parity refl c.args.character 0 c.requires
