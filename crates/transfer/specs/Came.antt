-- What came of one read or one write, by its answer.
-- Assumes nothing.
use Rattle.std.specs.Prelude.{ℕ, cond, eqb, Option, None, Some, Result, Ok, Err}
use Rattle.std.specs.declared.io.Error.{Error}
use Rattle.transfer.specs.Failure.{number_of, interruption}
use Rattle.transfer.specs.declared.Failure.{Failure}

-- the failure of a call that gave this error
abbrev pub failure_of : Error → Failure
failure_of error = record { number = number_of error }

-- a call that a signal interrupts is made again, and any other failure is told
abbrev pub failed_by : Failure → Option (Result ℕ Failure)
failed_by failure = cond (eqb failure.number interruption) None (Some (Err failure))

-- a call answers how many bytes it moved, or with its error
abbrev pub moved_by : Result ℕ Error → Option (Result ℕ Failure)
moved_by (Ok count) = Some (Ok count)
moved_by (Err error) = failed_by (failure_of error)

-- how a call ended that was made again as long as a signal came first: as it settled, or, where a signal came first every time, in that
-- error
abbrev pub ended_by : Option (Result ℕ Failure) → Result ℕ Failure
ended_by (Some settled) = settled
ended_by None = Err (record { number = interruption })
