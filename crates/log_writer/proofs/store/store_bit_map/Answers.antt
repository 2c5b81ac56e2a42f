-- `log_writer::store::store_bit_map` meets its contract. The loop's invariant: the first `b` bytes are stored.
-- Assumes nothing.
use mathlib.Core.Path.{sym, ap, ap₂, ◌∙◌}
use mathlib.Core.List.{List, ◌++◌, append-nil}
use Prim.Native.Nat.{ℕ}
use native.Mathlib.Omega.{arith}
use lib.ListN.{set}
use Rattle.std.proofs.Math.ListN.{drop_of_length-le}
use Rattle.indexed.proofs.Front.{front_more, front_all}
use Rattle.sense_log.specs.Log.{bit_map}
use Rattle.sense_log.proofs.Bits.{length_bit_map}
use Rattle.log_writer.proofs.Stored.{get_or_bit_map}
use Rattle.log_writer.proofs.store.store_bit_map.Goals as goal

pub loop-b-preserved : goal.loop-b-preserved
loop-b-preserved c =
    let changed = c.args.changed.now in
    let bytes = c.args.bytes.now in
    let b = c.loop-b.b in
    let size = c.requires.1 in
    ap₂ (λ (l : List ℕ) (v : ℕ). set l b v) c.loop-b.invariant (c.bit_map_byte.ensures ∙ sym (get_or_bit_map changed b (omega (arith, size, c.loop-b-test.true))))
    ∙ front_more b (bit_map changed) bytes 0 (omega (arith, size, length_bit_map changed, c.loop-b-test.true)) c.loop-b-test.true

pub returns : goal.returns
returns c =
    let changed = c.args.changed.now in
    let bytes = c.args.bytes.now in
    let b = c.loop-b.b in
    c.loop-b.invariant
    ∙ front_all b (bit_map changed) bytes (omega (arith, c.requires.1, length_bit_map changed, c.loop-b-test.false, c.loop-b.auto))
    ∙ ap (λ (l : List ℕ). bit_map changed ++ l) (drop_of_length-le bytes (omega (arith, c.loop-b-test.false)))
    ∙ append-nil (bit_map changed)
