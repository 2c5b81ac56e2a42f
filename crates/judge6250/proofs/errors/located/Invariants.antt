-- `judge6250::errors::located` meets its contract. The loop's invariant: the register is S1, shifted once for each track that was
-- passed, and none of those accounts for S2.
-- Assumes nothing.
use mathlib.Core.Path.{◌≡◌}
use mathlib.Core.Bool.{false}
use Prim.Native.Nat.{ℕ, ◌<◌}
use lib.Dec.{eqb}
use Rattle.register.specs.Shift.{shifts}
use Rattle.rectangular.specs.Constants.{feedback}
use Rattle.rectangular.specs.Syndrome.{weighed}
use Rattle.judge6250.proofs.errors.located.Given as goal

-- track k does not account for S2
abbrev pub Fails : ℕ → ℕ → ℕ → Type 0
Fails s1 s2 k = eqb (weighed 8 feedback k s1) s2 ≡ false

abbrev pub invariant-loop-track : goal.invariant-loop-track
invariant-loop-track l =
    (l.code.register ≡ shifts 8 feedback l.track l.s1) × ((k : ℕ) → k < l.track → Fails l.s1 l.s2 k)
