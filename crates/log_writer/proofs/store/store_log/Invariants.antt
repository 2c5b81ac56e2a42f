-- `log_writer::store::store_log` meets its contract. The loop's invariant: the maps of the groups so far are stored behind the bit map.
-- Assumes nothing.
use mathlib.Core.Path.{◌≡◌}
use Prim.Native.Nat.{◌+◌}
use lib.ListN.{length}
use lib.Seq.{sets}
use Rattle.sense_log.proofs.Bits.{stored}
use Rattle.log_writer.proofs.store.store_log.Given as goal

abbrev pub invariant-loop-map : goal.invariant-loop-map
invariant-loop-map l = record {
  behind : l.end ≡ l.initial.end + length (stored l.changed l.map-index);
  kept : l.log ≡ sets l.initial.log l.initial.end (stored l.changed l.map-index);
}
