-- `log_reader::bits::ones_of` meets its contract: no byte has more than eight ones.
-- Assumes nothing.
use Prim.Native.Nat.{◌*◌}
use native.Mathlib.Omega.{arith}
use lib.Count.{ones-le}
use lib.ListN.{get_or}
use Rattle.sense_log.proofs.Bits.{standing_le}
use Rattle.log_reader.proofs.Standing.{standing_bytes}
use Rattle.log_reader.proofs.bits.ones_of.Goals as goal

pub overflow_add-count : goal.overflow_add-count
overflow_add-count c =
    let bytes = c.args.bytes.now in
    let at = c.loop-byte.byte-index in
    omega (
      arith,
      c.loop-byte.invariant,
      standing_bytes bytes (λ k. (c.type_inv.bytes k).fits) at (omega arith),
      standing_le bytes (8 * at),
      ones-le 8 (get_or bytes at 0) (c.type_inv.bytes at).fits,
      c.requires,
    )
