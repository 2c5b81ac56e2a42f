-- `group6250::group::Group::value` meets its contract.
-- Assumes nothing.
use mathlib.Core.Path.{◌≡◌, sym, ap, ◌∙◌}
use Prim.Native.Nat.{ℕ}
use native.Mathlib.Omega.{arith}
use lib.ListN.{get_or}
use Rattle.group6250.specs.Packed.{byte_at, values_of}
use Rattle.group6250.proofs.Packed.{value_low, value_parity}
use Rattle.group6250.proofs.group.Group.value.Goals as goal

pub returns-then-track-lt-PARITY_TRACK : goal.returns-then-track-lt-PARITY_TRACK
unfolding byte_at
returns-then-track-lt-PARITY_TRACK c =
    let args = c.args in
    sym (value_low args.self args.track c.if-track-lt-PARITY_TRACK.true)

pub returns-else-track-lt-PARITY_TRACK : goal.returns-else-track-lt-PARITY_TRACK
returns-else-track-lt-PARITY_TRACK c =
    let args = c.args in
    let last : args.track ≡ 8 = omega arith in
    sym (ap (λ (k : ℕ). get_or (values_of args.self) k 0) last ∙ value_parity args.self)
