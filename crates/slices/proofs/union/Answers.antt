-- `slices::union` meets its contract: each value adds its bits.
-- Assumes nothing.
use Rattle.std.proofs.Common.{◌≡◌, refl, sym, ap, ◌∙◌, ℕ, arith, add-one, length, get_or, bit_or}
use Rattle.slices.specs.Union.{union_to, union_of}
use Rattle.slices.proofs.union.Goals as goal

pub loop-value-init : goal.loop-value-init
unfolding union_to
loop-value-init c = refl

pub loop-value-preserved : goal.loop-value-preserved
unfolding union_to
loop-value-preserved c =
    let k = c.loop-value.value-index in
    let values = c.args.values.now in
    ap (λ (b : ℕ). bit_or b (get_or values k 0)) c.loop-value.invariant ∙ ap (λ (n : ℕ). union_to n values) (sym (add-one k))

pub returns : goal.returns
unfolding union_of
returns c =
    let values = c.args.values.now in
    let all : c.loop-value.value-index ≡ length values = omega arith in
    c.loop-value.invariant ∙ ap (λ (n : ℕ). union_to n values) all
