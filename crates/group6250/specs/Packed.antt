-- The nine-track group as the code holds it: eight track bytes in one number of 64 bits, track j in bits 8j to 8j + 7, and
-- the parity track beside it.
-- Assumes nothing.
use Rattle.std.specs.Prelude.{cond, List, [], ◌∷◌, ◌++◌, ℕ, ◌*◌, ◌/◌, ◌%◌, ◌^◌, ltb}
use Rattle.std.specs.Int.Bits.{bit_and}
use Rattle.indexed.specs.List.{tabulate}
use Rattle.register.specs.Sum.{xor_sum}
use Rattle.register.specs.Xor.{◌⊕◌}
use Rattle.group6250.specs.declared.group.Group.{Group}

-- track byte j
unfoldable pub byte_at : ℕ → ℕ → ℕ
byte_at j tracks = tracks / 2 ^ (8 * j) % 256

-- the eight track bytes
unfoldable pub bytes_of : ℕ → List ℕ
bytes_of tracks = tabulate 8 (λ j. byte_at j tracks)

-- a value where it stands among tracks 0 to 7
unfoldable pub placed_at : ℕ → ℕ → ℕ
placed_at track value = cond (ltb track 8) (value * 2 ^ (8 * track)) 0

-- the nine track values
unfoldable pub values_of : Group → List ℕ
values_of g = tabulate 8 (λ j. byte_at j g.tracks) ++ (g.parity ∷ [])

-- the exclusive-or of the eight track bytes
unfoldable pub parity_byte : ℕ → ℕ
parity_byte tracks = xor_sum 8 (λ j. byte_at j tracks)

-- one step of the exchange of rows and columns ("Orthogonal symmetry"): the bits that the mask marks change places with those a
-- distance above them
unfoldable pub exchange : ℕ → ℕ → ℕ → ℕ
exchange distance mask x =
    x
    ⊕ bit_and (x ⊕ x / 2 ^ distance) mask
    ⊕ bit_and (x ⊕ x / 2 ^ distance) mask * 2 ^ distance % 2 ^ 64
