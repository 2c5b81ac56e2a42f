-- `scan800::gather::gather` meets its contract. The loop's invariant: the registers and sums of the first `k` characters.
-- Assumes nothing.
use Prim.Native.Nat.{◌-◌}
use lib.ListN.{length}
use Rattle.record800.specs.Read.{picture}
use Rattle.scan800.proofs.Gathering.{After}
use Rattle.scan800.proofs.gather.gather.Given as goal

abbrev pub invariant-loop-k : goal.invariant-loop-k
invariant-loop-k l =
    let characters = l.reading.characters.now in
    After (length characters - 2) (picture l.reading.backward characters) l.k l.registers.check l.registers.error l.longitudinal l.wrong
