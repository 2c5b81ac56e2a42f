-- `judge800::track::located` meets its contract. The loop's invariant: the pattern is shifted `j` times, and the first `j` tracks
-- are tried.
-- Assumes nothing.
use mathlib.Core.Path.{◌≡◌}
use mathlib.Core.Bool.{Bool, ◌&&◌}
use Prim.Native.Nat.{ℕ, ◌*◌, ◌^◌}
use lib.Dec.{eqb}
use Rattle.indexed.specs.List.{below, keep}
use Rattle.register.specs.Shift.{shifts}
use Rattle.register.specs.Xor.{◌⊕◌}
use Rattle.cyclic.specs.Constants.{feedback, offset}
use Rattle.judge800.specs.Told.{one_found}
use Rattle.judge800.proofs.track.located.Given as goal

-- whether track j accounts for the sums
abbrev pub holdsAt : ℕ → ℕ → ℕ → ℕ → ℕ → Bool
holdsAt check pattern longitudinal odd j =
    eqb (check ⊕ shifts 9 feedback j pattern) offset && eqb longitudinal (odd * 2 ^ j)

abbrev pub invariant-loop-j : goal.invariant-loop-j
invariant-loop-j l =
    (l.found ≡ one_found (keep (holdsAt l.check l.pattern l.longitudinal l.odd) (below l.j))) × (l.shifted ≡ shifts 9 feedback l.j l.pattern)
