-- `scan800::reading::Reading::first_stray` meets its contract. The loop's invariant: none of the characters passed is above 511.
-- Assumes nothing.
use lib.Dec.{ltb}
use Rattle.indexed.proofs.First.{NoneBelow}
use Rattle.record800.specs.Read.{picture}
use Rattle.scan800.proofs.reading.Reading.first_stray.Given as goal

abbrev pub invariant-loop-k : goal.invariant-loop-k
invariant-loop-k l = NoneBelow (λ v. ltb 511 v) (picture l.self.backward l.self.characters.now) l.k
