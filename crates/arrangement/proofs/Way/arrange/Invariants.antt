-- `arrangement::Way::arrange` meets its contract. The loop's invariant: the first `k` words are arranged, and behind them the
-- target is as it was.
-- Assumes nothing.
use mathlib.Core.Path.{◌≡◌}
use lib.ListN.{length}
use Rattle.indexed.proofs.Front.{front}
use Rattle.track_order.specs.Order.{arranged}
use Rattle.arrangement.proofs.Way.arrange.Given as goal

abbrev pub invariant-loop-k : goal.invariant-loop-k
invariant-loop-k l =
    (length l.target ≡ length l.initial.target) × (l.target ≡ front l.k (arranged l.self l.source) l.initial.target)
