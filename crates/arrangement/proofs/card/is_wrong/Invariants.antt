-- `arrangement::card::is_wrong` meets its contract. The loop's invariant: no other place from `k` on has the number.
-- Assumes nothing.
use mathlib.Core.Path.{◌≡◌}
use Prim.Native.Nat.{ℕ, ◌<◌, ◌≤◌}
use lib.ListN.{length, get_or}
use Rattle.arrangement.proofs.card.is_wrong.Given as goal

abbrev pub invariant-loop-k : goal.invariant-loop-k
invariant-loop-k l = (j : ℕ) → l.k ≤ j → j < length l.card → get_or l.card j 0 ≡ get_or l.card l.place 0 → j ≡ l.place
