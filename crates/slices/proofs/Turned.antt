-- Places counted from the other end: within the same bounds, and turned twice as they were.
-- Assumes nothing.
use mathlib.Core.Path.{◌≡◌, refl}
use mathlib.Core.Bool.{Bool, true, false}
use Prim.Native.Nat.{ℕ, ◌<◌}
use native.Mathlib.Omega.{arith}
use Rattle.slices.specs.Turned.{turned_place}

pub turned_lt : (backward : Bool) (n k : ℕ) → k < n → turned_place backward n k < n
unfolding turned_place
turned_lt true n k h = omega arith
turned_lt false n k h = h

pub turned_twice : (backward : Bool) (n k : ℕ) → k < n → turned_place backward n (turned_place backward n k) ≡ k
unfolding turned_place
turned_twice true n k h = omega arith
turned_twice false n k h = refl
