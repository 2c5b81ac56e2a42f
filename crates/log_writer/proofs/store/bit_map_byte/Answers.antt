-- `log_writer::store::bit_map_byte` meets its contract. The loop's invariant: the bits from `i` on are entered.
-- Assumes nothing.
use mathlib.Core.Path.{◌≡◌, refl, ap, ap₂, ◌∙◌}
use Prim.Native.Nat.{ℕ, ◌+◌, ◌-◌, ◌*◌}
use native.Mathlib.Omega.{arith}
use Rattle.indexed.specs.List.{tabulate, tabulate_from}
use Rattle.register.specs.Bit.{of_bits}
use Rattle.log_writer.proofs.Stored.{entered, entered_next, entered_lt, entered_all}
use Rattle.log_writer.proofs.store.bit_map_byte.Goals as goal

pub loop-i-init : goal.loop-i-init
unfolding of_bits tabulate tabulate_from
loop-i-init c = refl

pub overflow_mul-byte : goal.overflow_mul-byte
overflow_mul-byte c =
    let i = c.loop-i.i in
    let changed = c.args.changed.now in
    omega (arith, c.loop-i.invariant, entered_next changed c.args.b i c.loop-i-test.true c.loop-i.auto.i, entered_lt changed c.args.b (i - 1))

pub overflow_add-byte : goal.overflow_add-byte
overflow_add-byte c =
    let i = c.loop-i.i in
    let changed = c.args.changed.now in
    omega (
      arith,
      c.loop-i.invariant,
      c.standing_at.ensures,
      entered_next changed c.args.b i c.loop-i-test.true c.loop-i.auto.i,
      entered_lt changed c.args.b (i - 1),
    )

pub loop-i-preserved : goal.loop-i-preserved
loop-i-preserved c =
    ap₂ (λ (x y : ℕ). 2 * x + y) c.loop-i.invariant c.standing_at.ensures
    ∙ entered_next c.args.changed.now c.args.b c.loop-i.i c.loop-i-test.true c.loop-i.auto.i

pub returns : goal.returns
returns c =
    let all : c.loop-i.i ≡ 0 = omega (arith, c.loop-i-test.false) in
    c.loop-i.invariant ∙ ap (entered c.args.changed.now c.args.b) all ∙ entered_all c.args.changed.now c.args.b
