-- `log_reader::log::Log::deliver` meets its contract: a log that is its bit map has no map.
-- Assumes nothing.
use mathlib.Core.Path.{◌≡◌, sym, ap, ◌∙◌}
use mathlib.Core.List.{List, ◌++◌}
use Prim.Native.Nat.{ℕ}
use native.Mathlib.Omega.{arith}
use lib.ListN.{length, take, drop, replicate, length-take}
use Rattle.register.specs.Counts.{bit_counts}
use Rattle.register.proofs.Counts.{counts_of_zeros}
use Rattle.rectangular.specs.Constants.{tracks}
use Rattle.sense_log.specs.Log.{track_marks}
use Rattle.track_counts.proofs.Packed.{holds_told}
use Rattle.log_reader.proofs.Suits.{none_marked, zeros}
use Rattle.log_reader.proofs.log.Log.deliver.Goals as goal

pub returns-then-self-bit_map_length : goal.returns-then-self-bit_map_length
unfolding track_marks
returns-then-self-bit_map_length c =
    let groups = c.args.self.now.groups in
    let log = c.args.self.now.bytes.now in
    let maps = c.args.maps.now in
    let unmarked = none_marked groups log c.args.self.now.suits (c.if-self-bit_map_length.true ∙ c.bit_map_length.ensures) in
    let long : length (take groups maps) ≡ groups = length-take groups maps ∙ omega (arith, c.requires) in record {
      maps = ap (λ (l : List ℕ). l ++ drop groups maps) (c.fill.ensures.after (λ y e. e) ∙ ap (λ (n : ℕ). replicate n 0) long ∙ zeros groups ∙ sym unmarked);
      marks = holds_told _ (λ k. 0) c.none.ensures (λ k. omega arith) ∙ counts_of_zeros tracks groups ∙ sym (ap (bit_counts tracks) unmarked);
    }
