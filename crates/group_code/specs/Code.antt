-- The 4-to-5 group code (document 01, "The 6250 group", after ECMA-50): four bits as a code of five, and a track byte as a
-- word of ten.
-- Assumes nothing.
use Rattle.std.specs.Prelude.{ℕ, ◌+◌, ◌*◌, ◌/◌, ◌%◌, Bool, List, [], ◌∷◌, eqb, ltb, get_or}
use Rattle.indexed.specs.List.{first_where}

-- the codes of 0 to 15
abbrev pub codes : List ℕ
codes = 25 ∷ 27 ∷ 18 ∷ 19 ∷ 29 ∷ 21 ∷ 22 ∷ 23 ∷ 26 ∷ 9 ∷ 10 ∷ 11 ∷ 30 ∷ 13 ∷ 14 ∷ 15 ∷ []

abbrev pub code_of : ℕ → ℕ
code_of n = get_or codes n 0

-- the number whose code this is, or 16 where it is the code of none
unfoldable pub decoded : ℕ → ℕ
decoded code = first_where (λ c. eqb c code) codes

-- a five-bit value is legal if it is the code of a number
unfoldable pub legal : ℕ → Bool
legal code = ltb (decoded code) 16

-- a track byte's word: the code of its upper four bits in bits 9..5, that of its lower four in bits 4..0
abbrev pub word_of : ℕ → ℕ
word_of byte = code_of (byte / 16) * 32 + code_of (byte % 16)
