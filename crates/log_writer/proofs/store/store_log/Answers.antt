-- `log_writer::store::store_log` meets its contract. The loop's invariant: the maps of the groups so far are stored behind the bit map.
-- Assumes nothing.
use mathlib.Core.Path.{◌≡◌, refl, sym, ap, ap₂, ◌∙◌}
use Prim.Native.Nat.{ℕ, ◌+◌}
use native.Mathlib.Nat.{add-zero}
use native.Mathlib.Omega.{arith}
use lib.ListN.{length, drop, length-append, length-drop, length-take}
use Rattle.indexed.specs.List.{blocks}
use Rattle.sense_log.specs.Log.{bit_map_length}
use Rattle.sense_log.proofs.Bits.{stored, length_stored, bits_below, length_log}
use Rattle.log_writer.proofs.Stored.{bit_map_stored, maps_more, length_more, log_stored}
use Rattle.log_writer.proofs.store.store_log.Goals as goal

pub loop-map-init : goal.loop-map-init
unfolding blocks
loop-map-init c = record {
  behind = sym (add-zero _);
  kept = refl;
}

pub store_map-end-requires : goal.store_map-end-requires
store_map-end-requires c =
    let changed = c.args.changed.now in
    let log = c.args.log.now in
    let front = c.bit_map_length-front.result in
    let g = c.loop-map.map-index in
    omega (
      arith,
      c.loop-map.auto.log,
      c.loop-map.invariant.behind,
      c.bit_map_length-front.ensures,
      c.store_bit_map.auto.bytes,
      length-append c.store_bit_map.new.bytes (drop front log),
      length-drop front log,
      length-take front log,
      length_stored changed g,
      bits_below changed g,
      c.loop-map-test.true,
      c.requires.1,
    )

pub loop-map-preserved : goal.loop-map-preserved
loop-map-preserved c =
    let changed = c.args.changed.now in
    let g = c.loop-map.map-index in
    let was = c.loop-map.invariant in
    let done = c.store_map-end.ensures in record {
      behind = omega (arith, done.end, was.behind, length_more changed g);
      kept = done.log ∙ maps_more changed _ _ c.loop-map.log c.loop-map.end g was.behind was.kept;
    }

pub returns : goal.returns
returns c =
    let changed = c.args.changed.now in
    let log = c.args.log.now in
    let g = c.loop-map.map-index in
    let was = c.loop-map.invariant in
    let size = c.bit_map_length-front.ensures in
    let all : g ≡ length changed = omega (arith, c.loop-map-test.false, c.loop-map.auto.map-index-end) in record {
      length = was.behind
          ∙ ap₂ (λ (k n : ℕ). k + length (stored changed n)) size all
          ∙ ap (λ (n : ℕ). bit_map_length (length changed) + n) (length_stored changed (length changed))
          ∙ sym (length_log changed);
      log = log_stored changed _ _ c.loop-map.log g log all size (bit_map_stored changed log _ _ size c.store_bit_map.ensures (omega (arith, c.requires.1))) was.kept;
    }
