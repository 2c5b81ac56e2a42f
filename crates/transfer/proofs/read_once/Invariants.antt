-- `transfer::read_once` meets its contract: an interruption takes nothing.
-- Assumes nothing.
use Rattle.std.specs.Io.KnownBytes.{Keeps}
use Rattle.transfer.proofs.read_once.Given as goal

abbrev pub invariant-tries : goal.invariant-tries
invariant-tries g l = Keeps (g.R.Read.remaining l.initial.input) (g.R.Read.remaining l.input)
