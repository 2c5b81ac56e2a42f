-- `log_reader::log::length_suits` meets its contract: each check is the definition's.
-- Assumes nothing.
use mathlib.Core.Path.{ap₂, ◌∙◌}
use Prim.Native.Nat.{ℕ, ◌+◌, ◌*◌}
use native.Mathlib.Omega.{arith}
use borrow.Author.Tests.{lt-leb}
use lib.Dec.{eqb}
use lib.ListN.{length}
use Rattle.sense_log.proofs.Bits.{standing_le}
use Rattle.log_reader.proofs.Suits.{no_groups, many_groups, no_bit_map, by_length}
use Rattle.log_reader.proofs.log.length_suits.Goals as goal
use Rattle.log_reader.proofs.log.length_suits.Goals.{then-groups-eq0-via-then-groups-eq0, then-groups-eq0-via-else-groups-eq0+then-groups-gt-MOST_GROUPS}

pub returns-then-groups-eq0 : goal.returns-then-groups-eq0
returns-then-groups-eq0 c =
    elim c.then-groups-eq0.branch [
      | then-groups-eq0-via-then-groups-eq0 w ↦ no_groups c.args.groups c.args.log.now w.if-groups-eq0.true
      | then-groups-eq0-via-else-groups-eq0+then-groups-gt-MOST_GROUPS w ↦ many_groups c.args.groups c.args.log.now w.if-groups-gt-MOST_GROUPS.true
    ]

pub overflow_mul-result : goal.overflow_mul-result
overflow_mul-result c =
    omega (arith, c.standing_bits.ensures, standing_le c.args.log.now c.args.groups, c.if-groups-gt-MOST_GROUPS.false)

pub overflow_add-result : goal.overflow_add-result
overflow_add-result c =
    omega (
      arith,
      c.standing_bits.ensures,
      standing_le c.args.log.now c.args.groups,
      c.if-groups-gt-MOST_GROUPS.false,
      c.bit_map_length-front.ensures,
    )

pub returns-then-log-front : goal.returns-then-log-front
returns-then-log-front c =
    let args = c.args in
    ap₂ (λ (front count : ℕ). eqb (length args.log.now) (front + 2 * count)) c.bit_map_length-front.ensures c.standing_bits.ensures
    ∙ by_length args.groups args.log.now (omega (arith, c.if-groups-eq0.false)) c.if-groups-gt-MOST_GROUPS.false

pub returns-else-log-front : goal.returns-else-log-front
returns-else-log-front c =
    let args = c.args in
    lt-leb c.bit_map_length-front.result (length args.log.now) (omega arith)
    ∙ no_bit_map args.groups args.log.now (omega (arith, c.if-groups-eq0.false)) c.if-groups-gt-MOST_GROUPS.false (omega (arith, c.bit_map_length-front.ensures))
