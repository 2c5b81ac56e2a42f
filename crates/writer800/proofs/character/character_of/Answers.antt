-- `writer800::character::character_of` meets its contract: every entry is computed.
-- Assumes nothing.
use mathlib.Core.Path.{refl}
use native.Mathlib.Omega.{arith}
use Rattle.indexed.specs.List.{tabulate, tabulate_from}
use Rattle.indexed.proofs.Tabulate.{ruled}
use Rattle.register.specs.Parity.{parity, parity_digits}
use Rattle.record800.specs.Record.{character_of}
use Rattle.writer800.proofs.character.character_of.Goals as goal

pub returns : goal.returns
unfolding tabulate tabulate_from character_of parity parity_digits
returns c = ruled _ 256 character_of refl c.args.byte 0 (omega arith)
