-- `log_writer::store::store_map` meets its contract.
-- Assumes nothing.
use mathlib.Core.Path.{◌≡◌, sym, ap, ◌∙◌}
use mathlib.Core.List.{List}
use Prim.Native.Nat.{ℕ, ◌+◌}
use native.Mathlib.Nat.{add-zero}
use native.Mathlib.Omega.{arith}
use lib.ListN.{length}
use lib.Seq.{sets}
use Rattle.sense_log.proofs.Standing.{no_bytes, two_bytes}
use Rattle.log_writer.proofs.Stored.{part_stored, bytes_of_map}
use Rattle.log_writer.proofs.store.store_map.Goals as goal

pub returns-then-map-eq0 : goal.returns-then-map-eq0
returns-then-map-eq0 c =
    let args = c.args in
    let none = no_bytes args.map c.if-map-eq0.true in
    record {
      end = sym (ap (λ (l : List ℕ). args.at + length l) none ∙ add-zero args.at);
      log = sym (ap (sets args.log.now args.at) none);
    }

pub returns : goal.returns
returns c =
    let args = c.args in
    let two = two_bytes args.map (omega (arith, c.if-map-eq0.false)) in
    let made = c.copy_from_slice.ensures.after ∙ c.to_le_bytes.ensures ∙ bytes_of_map args.map c.ranges.map.fits in
    let long : length c.copy_from_slice.new.self ≡ 2 = ap length made in record {
      end = sym (ap (λ (l : List ℕ). args.at + length l) two);
      log = part_stored args.at _ args.log.now _ (omega (arith, long)) (omega (arith, long, c.requires)) ∙ ap (sets args.log.now args.at) (made ∙ sym two);
    }
