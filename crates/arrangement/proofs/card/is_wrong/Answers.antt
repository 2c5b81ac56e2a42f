-- `arrangement::card::is_wrong` meets its contract. The loop's invariant: no other place from `k` on has the number.
-- Assumes nothing.
use Prim.Native.Nat.{◌-◌}
use native.Mathlib.Omega.{arith}
use Rattle.arrangement.proofs.Wrong.{above_wrong, twice_wrong, alone_right}
use Rattle.arrangement.proofs.card.is_wrong.Goals as goal

pub returns-then-number-ge-TRACKS : goal.returns-then-number-ge-TRACKS
returns-then-number-ge-TRACKS c = above_wrong _ c.args.place c.requires c.if-number-ge-TRACKS.true

pub returns-then-k-place : goal.returns-then-k-place
returns-then-k-place c =
    twice_wrong _ c.args.place c.requires (c.loop-k.k - 1) (omega arith) c.if-card-k.true (λ same. omega arith)

pub returns : goal.returns
returns c = alone_right _ c.args.place c.requires c.if-number-ge-TRACKS.false (λ j. c.loop-k.invariant j (omega arith))
