-- `reader800::reader::store` meets its contract. The loop's invariant: the first `k` bytes are stored.
-- Assumes nothing.
use mathlib.Core.Path.{◌≡◌}
use Prim.Native.Nat.{◌-◌}
use lib.ListN.{length}
use Rattle.indexed.proofs.Front.{front}
use Rattle.record800.specs.Read.{picture}
use Rattle.reader800.specs.Stored.{stored_data}
use Rattle.reader800.proofs.reader.store.Given as goal

abbrev pub invariant-loop-k : goal.invariant-loop-k
invariant-loop-k l =
    let characters = l.reading.characters.now in
    (length l.output ≡ length l.initial.output)
    × (l.output ≡ front l.k (stored_data (length characters - 2) (picture l.reading.backward characters) l.bit) l.initial.output)
