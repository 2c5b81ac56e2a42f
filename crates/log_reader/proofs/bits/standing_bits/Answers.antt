-- `log_reader::bits::standing_bits` meets its contract: the bits of the whole bytes, and those of the groups of the last one.
-- Assumes nothing.
use mathlib.Core.Path.{◌≡◌, ap, ap₂, sym, ◌∙◌}
use mathlib.Core.List.{List}
use Prim.Native.Nat.{ℕ, ◌+◌, ◌*◌, ◌/◌, ◌%◌, ◌^◌, ◌≤◌}
use native.Mathlib.Omega.{arith}
use lib.Count.{ones}
use lib.ListN.{length, get_or, take}
use Rattle.std.specs.Prelude.{sum_by}
use mir.Syntax.{w8}
use mir.Val.{Fits}
use Rattle.sense_log.specs.Back.{standing_bits}
use Rattle.sense_log.proofs.Bits.{standing_le}
use Rattle.log_reader.proofs.Standing.{standing_bytes, standing_last}
use Rattle.log_reader.proofs.bits.standing_bits.Goals as goal

-- the whole bytes' bits and those of the last groups
whole : (log : List ℕ) (groups count last : ℕ) → ((k : ℕ) → Fits w8 (get_or log k 0)) → groups / 8 ≤ length log → count ≡ sum_by ones (take (groups / 8) log)
    → last ≡ ones (get_or log (groups / 8) 0 % 2 ^ (groups % 8)) → count + last ≡ standing_bits log groups
whole log groups count last bytes within counted is =
    ap₂ ◌+◌ (counted ∙ standing_bytes log (λ k. (bytes k).fits) (groups / 8) within) is ∙ sym (standing_last log groups)

pub returns-then-left-eq0 : goal.returns-then-left-eq0
returns-then-left-eq0 c =
    let log = c.args.log.now in
    let groups = c.args.groups in
    let all : 8 * (groups / 8) ≡ groups = omega arith in
    c.ones_of-count.ensures ∙ standing_bytes log (λ k. (c.type_inv.log k).fits) (groups / 8) (omega (arith, c.requires)) ∙ ap (standing_bits log) all

pub overflow_add-result : goal.overflow_add-result
overflow_add-result c =
    let log = c.args.log.now in
    let groups = c.args.groups in
    omega (
      arith,
      whole log groups _ _ c.type_inv.log (omega (arith, c.requires)) c.ones_of-count.ensures c.lowest_ones.ensures,
      standing_le log groups,
      c.requires,
    )

pub returns : goal.returns
returns c = whole c.args.log.now c.args.groups _ _ c.type_inv.log (omega (arith, c.requires)) c.ones_of-count.ensures c.lowest_ones.ensures
