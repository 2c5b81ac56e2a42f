-- `log_writer::store::bit_map_byte` meets its contract. The loop's invariant: the bits from `i` on are entered.
-- Assumes nothing.
use mathlib.Core.Path.{◌≡◌}
use Rattle.log_writer.proofs.Stored.{entered}
use Rattle.log_writer.proofs.store.bit_map_byte.Given as goal

abbrev pub invariant-loop-i : goal.invariant-loop-i
invariant-loop-i l = l.byte ≡ entered l.changed l.b l.i
