-- `group6250::group::placed` meets its contract: the shift loses no bit.
-- Assumes nothing.
use mathlib.Core.Path.{sym, ap}
use mathlib.Core.Bool.{Bool, cond}
use Prim.Native.Nat.{◌*◌, ◌^◌}
use borrow.Author.Rules.{rules}
use borrow.Author.Tests.{le-ltb}
use Rattle.group6250.specs.Packed.{placed_at}
use Rattle.group6250.proofs.Packed.{placed_fits}
use Rattle.group6250.proofs.group.placed.Goals as goal

pub returns-then-track-lt-PARITY_TRACK : goal.returns-then-track-lt-PARITY_TRACK
returns-then-track-lt-PARITY_TRACK c =
    let args = c.args in
    placed_fits args.track args.value c.if-track-lt-PARITY_TRACK.true (search rules)

pub returns-else-track-lt-PARITY_TRACK : goal.returns-else-track-lt-PARITY_TRACK
unfolding placed_at
returns-else-track-lt-PARITY_TRACK c =
    let args = c.args in
    sym (ap (λ (b : Bool). cond b (args.value * 2 ^ (8 * args.track)) 0) (le-ltb args.track 8 c.if-track-lt-PARITY_TRACK.false))
