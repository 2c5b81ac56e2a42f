-- `log_reader::log::Log::maps_suit` meets its contract. The loop's invariant: the first k maps suit.
-- Assumes nothing.
use mathlib.Core.Path.{◌≡◌}
use mathlib.Core.Bool.{true}
use Prim.Native.Nat.{ℕ, ◌<◌}
use Rattle.log_reader.proofs.Suits.{suited}
use Rattle.log_reader.proofs.log.Log.maps_suit.Given as goal

abbrev pub invariant-loop-k : goal.invariant-loop-k
invariant-loop-k l = (j : ℕ) → j < l.k → suited l.self.groups l.self.bytes.now j ≡ true
