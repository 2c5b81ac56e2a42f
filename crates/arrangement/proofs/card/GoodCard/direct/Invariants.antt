-- `arrangement::card::GoodCard::direct` meets its contract. The loop's invariant: the first `k` places are the card's.
-- Assumes nothing.
use mathlib.Core.Path.{◌≡◌}
use Prim.Native.Nat.{ℕ, ◌<◌}
use lib.ListN.{length, get_or}
use Rattle.arrangement.proofs.card.GoodCard.direct.Given as goal

abbrev pub invariant-loop-k : goal.invariant-loop-k
invariant-loop-k l = (length l.place-items ≡ 9) × ((j : ℕ) → j < l.k → get_or l.place-items j 0 ≡ get_or l.self j 0)
