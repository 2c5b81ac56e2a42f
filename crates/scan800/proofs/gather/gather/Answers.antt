-- `scan800::gather::gather` meets its contract. The loop's invariant: the registers and sums of the first `k` characters.
-- Assumes nothing.
use mathlib.Core.Path.{◌≡◌, refl, ◌∙◌}
use Prim.Native.Nat.{◌-◌}
use native.Mathlib.Omega.{arith}
use lib.ListN.{length}
use Rattle.indexed.specs.List.{total}
use Rattle.register.specs.Held.{held}
use Rattle.register.specs.Sum.{xor_sum}
use Rattle.record800.specs.Read.{wrong_count}
use Rattle.scan800.proofs.Passing.{passes}
use Rattle.scan800.proofs.Gathering.{few_wrong, nine_bits, data_wrong, check_wrong, last_wrong, step_asks, step, finish}
use Rattle.record800.proofs.Picture.{lengths_within}
use Rattle.scan800.proofs.gather.gather.Goals as goal

pub overflow_sub-n : goal.overflow_sub-n
overflow_sub-n c = omega (arith, lengths_within _ _ (passes c.args.passed.now))

pub loop-k-init : goal.loop-k-init
unfolding held xor_sum total
loop-k-init c = (c.fresh-registers.ensures.0, c.fresh-registers.ensures.1, refl, refl)

pub parity-off-requires : goal.parity-off-requires
parity-off-requires c = nine_bits (passes c.args.passed.now) _ c.character-next.ensures

pub enter-requires : goal.enter-requires
enter-requires c =
    let is-flag = data_wrong (passes c.args.passed.now) _ c.character-next.ensures c.parity-off.ensures c.loop-k-test.true in
    step_asks (passes c.args.passed.now) _ _ c.loop-k.invariant is-flag

pub loop-k-preserved : goal.loop-k-preserved
loop-k-preserved c =
    let at = c.loop-k in
    let next = c.character-next.ensures in
    let stepped = step (passes c.args.passed.now) at.k at.invariant next (data_wrong (passes c.args.passed.now) at.k next c.parity-off.ensures c.loop-k-test.true) in
    (c.enter.ensures.0 ∙ stepped.0, c.enter.ensures.1 ∙ stepped.1, stepped.2, stepped.3)

pub overflow_add-wrong : goal.overflow_add-wrong
overflow_add-wrong c = omega (arith, few_wrong (passes c.args.passed.now) _ (loop-k-preserved c).3 (omega (arith, c.loop-k-test.true)))

pub character-check-requires : goal.character-check-requires
character-check-requires c = omega (arith, lengths_within _ _ (passes c.args.passed.now))

pub overflow_add-check_off : goal.overflow_add-check_off
overflow_add-check_off c = omega (arith, lengths_within _ _ (passes c.args.passed.now))

pub overflow_add-n : goal.overflow_add-n
overflow_add-n c = omega (arith, lengths_within _ _ (passes c.args.passed.now))

pub parity-requires : goal.parity-requires
parity-requires c = nine_bits (passes c.args.passed.now) _ c.character-check.ensures

pub character-last-requires : goal.character-last-requires
character-last-requires c = omega (arith, lengths_within _ _ (passes c.args.passed.now))

pub parity-last_off-requires : goal.parity-last_off-requires
parity-last_off-requires c = nine_bits (passes c.args.passed.now) _ c.character-last.ensures

pub enter-requires-2 : goal.enter-requires-2
enter-requires-2 c =
    let is-flag = check_wrong (passes c.args.passed.now) c.character-check.ensures c.parity.ensures in
    step_asks (passes c.args.passed.now) _ _ c.loop-k.invariant is-flag

pub returns : goal.returns
returns c =
    let passes = (passes c.args.passed.now) in
    let at = c.loop-k in
    let all : at.k ≡ length c.args.passed.now.reading.characters.now - 2 = omega arith in
    let check = c.character-check.ensures in
    let last = c.character-last.ensures in
    let entered = step passes _ (rw all at at.invariant) check (check_wrong passes check c.parity.ensures) in
    let told = finish passes entered last (last_wrong passes last c.parity-last_off.ensures) in
    (c.enter-2.ensures.0 ∙ told.0, c.enter-2.ensures.1 ∙ told.1, told.2, told.3)

pub overflow_add-result-2 : goal.overflow_add-result-2
unfolding wrong_count
overflow_add-result-2 c = omega (arith, few_wrong (passes c.args.passed.now) _ (returns c).3 (omega arith))

pub overflow_add-result : goal.overflow_add-result
overflow_add-result c = omega (arith, (overflow_add-result-2 c).fits)
