-- The constants of the 800 code: polynomial, exponent, limits (document 003, "Mathematical description of the correction process";
-- document 01, "The 800 record").
-- Assumes nothing.
use Rattle.std.specs.Prelude.{ℕ}
use Rattle.register.specs.Shift.{shift}

-- what X^9 leaves modulo G = 1 + X^3 + X^4 + X^5 + X^6 + X^9
abbrev pub feedback : ℕ
feedback = 121

-- the first positive power of X that is the identity
abbrev pub exponent : ℕ
exponent = 17

-- the error-pattern register is ahead of E by so many powers of X
abbrev pub ahead : ℕ
ahead = 8

-- G2 = 1 + X + X^2 + X^4 + X^6 + X^7 + X^8, "Altering the CRC character parity"
abbrev pub offset : ℕ
offset = 471

-- a character has nine tracks, and so many bits
abbrev pub tracks : ℕ
tracks = 9

abbrev pub most_character : ℕ
most_character = 511

-- the data are 1 to 2,048 bytes
abbrev pub least_data : ℕ
least_data = 1

abbrev pub most_data : ℕ
most_data = 2048

-- behind the data stand the check character and the longitudinal character
abbrev pub checks : ℕ
checks = 2

-- X times a polynomial, modulo G
unfoldable pub times_x : ℕ → ℕ
times_x a = shift 9 feedback a
