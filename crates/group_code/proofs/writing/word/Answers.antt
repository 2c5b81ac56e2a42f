-- `group_code::writing::word` meets its contract: every entry is computed.
-- Assumes nothing.
use mathlib.Core.Path.{refl}
use borrow.Author.Rules.{rules}
use Rattle.indexed.specs.List.{tabulate, tabulate_from}
use Rattle.indexed.proofs.Tabulate.{ruled}
use Rattle.group_code.specs.Code.{word_of}
use Rattle.group_code.proofs.writing.word.Goals as goal

pub returns : goal.returns
unfolding tabulate tabulate_from
returns c = ruled _ 256 word_of refl c.args.byte 0 (search rules)
