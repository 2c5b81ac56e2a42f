-- `log_reader::log::Log::group_bit` meets its contract: the length suits, so the bit map is there.
-- Assumes nothing.
use native.Mathlib.Omega.{arith}
use borrow.Author.Rules.{rules}
use Rattle.register.specs.Bit.{bit}
use Rattle.sense_log.specs.Back.{group_bit}
use Rattle.sense_log.proofs.Good.{length_told_lem}
use Rattle.log_reader.proofs.log.Log.group_bit.Goals as goal

pub bounds-self-g : goal.bounds-self-g
bounds-self-g c = let log = c.args.self.now in omega (arith, c.requires, (length_told_lem log.groups log.bytes.now log.suits).2)

pub returns : goal.returns
unfolding group_bit bit
returns c = search rules
