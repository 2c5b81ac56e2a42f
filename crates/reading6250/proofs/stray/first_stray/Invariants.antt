-- `reading6250::stray::first_stray` meets its contract. The loop's invariant: none of the first `g` groups has a stray bit.
-- Assumes nothing.
use mathlib.Core.Path.{◌≡◌}
use mathlib.Core.Bool.{false}
use Prim.Native.Nat.{ℕ, ◌<◌}
use Rattle.record6250.specs.Read.{stray_at}
use Rattle.reading6250.proofs.stray.first_stray.Given as goal

abbrev pub invariant-loop-g : goal.invariant-loop-g
invariant-loop-g l = (j : ℕ) → j < l.g → stray_at l.backward l.words l.maps j ≡ false
