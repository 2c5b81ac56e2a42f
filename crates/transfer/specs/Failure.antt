-- The number of an error of reading or writing.
-- Assumes nothing.
use Rattle.std.specs.Prelude.{ℕ, ℤ, pos, negsuc, Option, None, Some}
use Rattle.std.specs.IoError.{raw_os_error}
use Rattle.std.specs.declared.io.Error.{Error}

-- errors have numbers above 0
abbrev pub error_number : ℤ → ℕ
error_number (pos n) = n
error_number (negsuc n) = 0

-- an error that is not the system's has no number, and is told as 0
abbrev pub told_number : Option ℤ → ℕ
told_number None = 0
told_number (Some number) = error_number number

abbrev pub number_of : Error → ℕ
number_of error = told_number (raw_os_error error)

-- EINTR: a signal came before any byte was moved
abbrev pub interruption : ℕ
interruption = 4
