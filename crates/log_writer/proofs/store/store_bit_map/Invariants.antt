-- `log_writer::store::store_bit_map` meets its contract. The loop's invariant: the first `b` bytes are stored.
-- Assumes nothing.
use mathlib.Core.Path.{◌≡◌}
use Rattle.indexed.proofs.Front.{front}
use Rattle.sense_log.specs.Log.{bit_map}
use Rattle.log_writer.proofs.store.store_bit_map.Given as goal

abbrev pub invariant-loop-b : goal.invariant-loop-b
invariant-loop-b l = l.bytes ≡ front l.b (bit_map l.changed) l.initial.bytes
