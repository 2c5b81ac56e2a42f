-- Numbers out of text: where a number ends, a byte entered into a number, and the number that begins at a place.
-- Assumes nothing.
use Rattle.std.specs.Prelude.{ℕ, ◌+◌, ◌-◌, ◌*◌, Bool, cond, ◌||◌, List, [], ◌∷◌, eqb, ltb, Option, Some, None, Result, Ok, Err}
use Rattle.text.specs.declared.number.NumberFault.{NumberFault}
use Rattle.text.specs.declared.number.NumberFault.TheVariants.{NotANumber, TooLarge}
use Rattle.text.specs.declared.number.Number.{Number}

-- a number ends at a newline, a space, a tab or a carriage return, or where the text ends
abbrev pub separating : ℕ → Bool
separating byte = eqb byte 10 || eqb byte 32 || eqb byte 9 || eqb byte 13

-- the value of a digit; any other byte is none
abbrev pub digit_of : ℕ → Option ℕ
digit_of byte = cond (ltb byte 48) None (cond (ltb byte 58) (Some (byte - 48)) None)

-- no number is above 65,535
abbrev pub number_of : ℕ → Result ℕ NumberFault
number_of value = cond (ltb value 65536) (Ok value) (Err TooLarge)

-- a digit, or another byte, entered into a number
abbrev pub entered_digit : Result ℕ NumberFault → Option ℕ → Result ℕ NumberFault
entered_digit (Ok value) (Some digit) = number_of (10 * value + digit)
entered_digit (Err fault) (Some digit) = Err fault
entered_digit (Ok value) None = Err NotANumber
entered_digit (Err fault) None = Err NotANumber

unfoldable pub entered_byte : Result ℕ NumberFault → ℕ → Result ℕ NumberFault
entered_byte number byte = entered_digit number (digit_of byte)

-- the number whose first bytes gave a value, the rest of it standing at a place, and the place behind it
unfoldable pub scanned : Result ℕ NumberFault → ℕ → List ℕ → Number
scanned value at [] = record { value = value; end = at }
scanned value at (byte ∷ bytes) =
    cond (separating byte) (record { value = value; end = at }) (scanned (entered_byte value byte) (at + 1) bytes)
