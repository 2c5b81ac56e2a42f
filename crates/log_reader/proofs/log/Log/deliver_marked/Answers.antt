-- `log_reader::log::Log::deliver_marked` meets its contract. The loop's invariant: the maps of the first g groups are stored, and `at` is behind
-- those of the maps in the log that they took; and their marks are counted.
-- Assumes nothing.
use mathlib.Core.Path.{◌≡◌, refl, ap, ap₂, ◌∙◌}
use mathlib.Core.Bool.{cond}
use mathlib.Core.List.{List, ◌++◌}
use Prim.Native.Nat.{ℕ, ◌<◌}
use native.Mathlib.Omega.{arith}
use lib.Dec.{eqb}
use lib.ListN.{drop, set}
use Rattle.indexed.specs.List.{tabulate, tabulate_from, total}
use Rattle.indexed.proofs.Front.{tabulated_more}
use Rattle.register.specs.Counts.{bit_counts}
use Rattle.register.proofs.Counts.{first_bits, bits_le, bits_more, bits_all}
use Rattle.rectangular.specs.Constants.{tracks}
use Rattle.track_counts.proofs.Packed.{holds_same, holds_told, holds_room}
use Rattle.sense_log.specs.Back.{standing_bits, stored_map, map_back, maps_of}
use Rattle.sense_log.specs.Log.{track_marks}
use Rattle.sense_log.specs.Pair.{pair_at}
use Rattle.sense_log.proofs.Bits.{group_bit_lt, standing_more, standing_le}
use Rattle.sense_log.proofs.Good.{length_told_lem}
use Rattle.log_reader.proofs.Suits.{map_within}
use Rattle.log_reader.proofs.log.Log.deliver_marked.Goals as goal

pub loop-g-init : goal.loop-g-init
unfolding standing_bits total tabulate tabulate_from
loop-g-init c = record {
  behind = omega (arith, c.bit_map_length-at.ensures);
  stored = refl;
  counted = c.none-marks.ensures;
}

pub map_of_group-map-requires : goal.map_of_group-map-requires
map_of_group-map-requires c stands =
    let log = c.args.self.now in
    omega (arith, map_within log.groups log.bytes.now log.suits c.loop-g.g c.loop-g-test.true (omega (arith, c.group_bit-bit.ensures)), c.loop-g.invariant.behind)

pub with-marks-requires : goal.with-marks-requires
with-marks-requires c =
    let log = c.args.self.now in
    holds_room _ _ c.loop-g.invariant.counted
    (λ k. omega (arith, bits_le (map_back log.groups log.bytes.now) c.loop-g.g k, c.loop-g-test.true, (length_told_lem log.groups log.bytes.now log.suits).1))

pub overflow_add-at : goal.overflow_add-at
overflow_add-at c =
    let log = c.args.self.now in
    let g = c.loop-g.g in
    omega (
      arith,
      c.loop-g.invariant.behind,
      standing_le log.bytes.now g,
      (length_told_lem log.groups log.bytes.now log.suits).1,
      c.loop-g-test.true,
      c.group_bit-bit.ensures,
      group_bit_lt log.bytes.now g,
    )

pub loop-g-preserved : goal.loop-g-preserved
unfolding map_back stored_map
loop-g-preserved c =
    let groups = c.args.self.now.groups in
    let log = c.args.self.now.bytes.now in
    let g = c.loop-g.g in
    let bit = c.group_bit-bit in
    let read = c.map_of_group-map in
    let was = c.loop-g.invariant in
    let map : read.result ≡ map_back groups log g = read.ensures ∙ ap₂ (λ (b k : ℕ). cond (eqb b 0) 0 (pair_at log k)) bit.ensures was.behind in record {
      behind = omega (arith, was.behind, standing_more log g, bit.ensures);
      stored = ap (λ (l : List ℕ). set l g read.result) was.stored
          ∙ tabulated_more (map_back groups log) c.args.maps.now g read.result (omega (arith, c.loop-g-test.true, c.requires)) map;
      counted = holds_same _ _ _ (bits_more (map_back groups log) g _ map) (c.with-marks.ensures _ was.counted);
    }

pub returns : goal.returns
unfolding maps_of track_marks
returns c =
    let groups = c.args.self.now.groups in
    let log = c.args.self.now.bytes.now in
    let g = c.loop-g.g in
    let was = c.loop-g.invariant in
    let all : g ≡ groups = omega arith in
    let few : (k : ℕ) → first_bits (map_back groups log) g k < 4096 =
    λ k. omega (arith, bits_le (map_back groups log) g k, (length_told_lem groups log c.args.self.now.suits).1) in record {
      maps = was.stored ∙ ap (λ (n : ℕ). tabulate n (map_back groups log) ++ drop n c.args.maps.now) all;
      marks = holds_told _ _ was.counted few ∙ bits_all (map_back groups log) g tracks ∙ ap (λ (n : ℕ). bit_counts tracks (tabulate n (map_back groups log))) all;
    }
