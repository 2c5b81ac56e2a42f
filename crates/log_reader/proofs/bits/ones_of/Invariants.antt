-- `log_reader::bits::ones_of` meets its contract. The loop's invariant: the bits of the first bytes are counted.
-- Assumes nothing.
use mathlib.Core.Path.{◌≡◌}
use lib.Count.{ones}
use lib.ListN.{take}
use Rattle.std.specs.Prelude.{sum_by}
use Rattle.log_reader.proofs.bits.ones_of.Given as goal

abbrev pub invariant-loop-byte : goal.invariant-loop-byte
invariant-loop-byte l = l.count ≡ sum_by ones (take l.byte-index l.bytes)
