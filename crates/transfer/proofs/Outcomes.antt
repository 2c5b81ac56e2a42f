-- What a call says that it moved.
-- Assumes nothing.
use Prim.Native.Nat.{ℕ, ◌≤◌}
use mathlib.Core.Path.{◌≡◌, subst}
use mathlib.Core.Bool.{Bool, true, false, cond}
use lib.Dec.{eqb}
use Rattle.std.specs.Prelude.{IfOk, IfSome, None, Some, Result, Ok, Err}
use Rattle.std.specs.declared.io.Error.{Error}
use Rattle.transfer.specs.Came.{failure_of, failed_by, moved_by}
use Rattle.transfer.specs.declared.Failure.{Failure}

-- a call that fails moves nothing
failed_within : (failure : Failure) (n : ℕ) → IfSome (failed_by failure) (λ settled. IfOk settled (λ count. count ≤ n))
failed_within failure n = of (eqb failure.number 4)
  where
    of : (b : Bool) → IfSome (cond b None (Some (Err failure))) (λ (settled : Result ℕ Failure). IfOk settled (λ count. count ≤ n))
    of true = tt
    of false = tt

-- what a call says that it moved is within what it was lent
within : (answer : Result ℕ Error) (n : ℕ) → IfOk answer (λ count. count ≤ n) → IfSome (moved_by answer) (λ settled. IfOk settled (λ count. count ≤ n))
within (Ok count) n h = h
within (Err error) n h = failed_within (failure_of error) n

pub moved_within : (answer : Result ℕ Error) (n : ℕ) (settled : Result ℕ Failure) → IfOk answer (λ count. count ≤ n) → moved_by answer ≡ Some settled → IfOk settled (λ count. count ≤ n)
moved_within answer n settled lent e = subst (λ moved. IfSome moved (λ (s : Result ℕ Failure). IfOk s (λ count. count ≤ n))) e (within answer n lent)
