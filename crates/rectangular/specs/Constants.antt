-- The constants of the 6250 code: polynomial, exponent, limits (document 000, "Implementation of ORC"; document 01, "The 6250
-- group" and "The 6250 record").
-- Assumes nothing.
use Rattle.std.specs.Prelude.{ℕ}
use Rattle.register.specs.Shift.{shift, shifts}

-- what X^8 leaves modulo g = 1 + X^3 + X^4 + X^5 + X^8
abbrev pub feedback : ℕ
feedback = 57

-- the first positive power of T that is the identity
abbrev pub exponent : ℕ
exponent = 17

-- A group has nine tracks, is lent as nine numbers, and has seven information bytes. That the first two are equal is how a group lies on
-- tape (document 01: a word a track), and nothing else relies on it.
abbrev pub tracks : ℕ
tracks = 9

abbrev pub numbers_per_group : ℕ
numbers_per_group = 9

abbrev pub bytes_per_group : ℕ
bytes_per_group = 7

-- a word has ten bits, and so has each number that is lent for a group; a pointer map has nine
abbrev pub most_word : ℕ
most_word = 1023

abbrev pub most_number : ℕ
most_number = 1023

abbrev pub most_map : ℕ
most_map = 511

-- the data are 0 to 4,101 bytes, behind which stand 0 to 6 zero bytes, and a record has 1 to 586 groups
abbrev pub most_data : ℕ
most_data = 4101

abbrev pub most_padding : ℕ
most_padding = 6

abbrev pub most_groups : ℕ
most_groups = 586

-- T times a byte, and a power of T times a byte (equations (1) and (6))
unfoldable pub times_t : ℕ → ℕ
times_t a = shift 8 feedback a

unfoldable pub times_power : ℕ → ℕ → ℕ
times_power k a = shifts 8 feedback k a
