-- `group6250::group::tracks` meets its contract: the seven look-ups add up to the eight tracks.
-- Assumes nothing.
use mathlib.Core.Path.{◌≡◌, ap, ap₂, ◌∙◌}
use native.Mathlib.Omega.{arith}
use Rattle.register.specs.Xor.{◌⊕◌}
use Rattle.group6250.specs.Packed.{bytes_of}
use Rattle.group6250.proofs.Generator.{added_by, none_added, one_more, seven_add}
use Rattle.group6250.proofs.group.tracks.Goals as goal

pub loop-k-init : goal.loop-k-init
loop-k-init c = none_added c.args.bytes.now

pub loop-k-preserved : goal.loop-k-preserved
loop-k-preserved c = ap₂ ◌⊕◌ c.loop-k.invariant c.part-sum.ensures ∙ one_more c.args.bytes.now c.loop-k.k

pub returns : goal.returns
returns c =
    let bytes = c.args.bytes.now in
    let all : c.loop-k.k ≡ 7 = omega arith in
    ap bytes_of (c.loop-k.invariant ∙ ap (added_by bytes) all) ∙ seven_add bytes (λ k. omega (arith, (c.type_inv.bytes k).fits))
