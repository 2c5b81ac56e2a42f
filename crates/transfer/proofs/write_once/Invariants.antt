-- `transfer::write_once` meets its contract: an interruption takes nothing.
-- Assumes nothing.
use Rattle.std.specs.Io.KnownBytes.{Keeps}
use Rattle.transfer.proofs.write_once.Given as goal

abbrev pub invariant-tries : goal.invariant-tries
invariant-tries g l = Keeps (g.W.Write.contents l.initial.to) (g.W.Write.contents l.to)
