-- The written 800 record (document 01, "The 800 record"; document 003, "Mathematical description of the correction process").
-- Assumes nothing.
use Rattle.std.specs.Prelude.{ℕ, ◌+◌, ◌-◌, ◌*◌, List, [], ◌∷◌, ◌++◌, map, length, get_or}
use Rattle.register.specs.Held.{held}
use Rattle.register.specs.Parity.{parity}
use Rattle.register.specs.Sum.{xor_sum}
use Rattle.register.specs.Xor.{◌⊕◌}
use Rattle.cyclic.specs.Constants.{feedback, offset}

-- track k, 0 to 7, holds bit k of the byte, and track 8 makes the number of ones odd
unfoldable pub character_of : ℕ → ℕ
character_of byte = byte + 256 * (1 - parity byte)

-- The sum of X^i times character i, modulo G, over the first n characters: they count backward, the last of them with index 0. It is
-- what the check register holds after them.
abbrev pub check_sum : ℕ → (ℕ → ℕ) → ℕ
check_sum n c = held 9 feedback 0 n c

-- the check character: the data characters' sum, the last having index 1, plus G2 (equation (1) and "Altering the CRC character
-- parity")
unfoldable pub check_character : List ℕ → ℕ
check_character characters = held 9 feedback 1 (length characters) (λ k. get_or characters k 0) ⊕ offset

-- the exclusive-or of all characters
unfoldable pub longitudinal : List ℕ → ℕ
longitudinal characters = xor_sum (length characters) (λ k. get_or characters k 0)

-- the data characters, the check character and the longitudinal character
unfoldable pub with_check : List ℕ → List ℕ
with_check characters = characters ++ (check_character characters ∷ [])

unfoldable pub written_record : List ℕ → List ℕ
written_record bytes =
    with_check (map character_of bytes) ++ (longitudinal (with_check (map character_of bytes)) ∷ [])
