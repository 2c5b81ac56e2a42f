-- The sense log (document 02, request 2.1): "a bit map of the groups, group 0 in bit 0 of the first byte, spare bits zero; then, for each
-- group whose bit stands, two bytes, low one first, with the map of tracks whose words changed. A bit stands if that map isn't zero."
-- Assumes nothing.
use Rattle.std.specs.Prelude.{ℕ, ◌+◌, ◌*◌, ◌/◌, ◌%◌, cond, List, [], ◌∷◌, ◌++◌, eqb, length, get_or}
use Rattle.std.specs.Int.Count.{ones}
use Rattle.indexed.specs.List.{tabulate, blocks, total}
use Rattle.register.specs.Bit.{of_bits}
use Rattle.register.specs.Counts.{bit_counts}
use Rattle.rectangular.specs.Constants.{tracks}

-- the bytes of a bit map for so many groups
abbrev pub bit_map_length : ℕ → ℕ
bit_map_length groups = (groups + 7) / 8

-- the space that a log of so many groups needs: for the bit map, and two bytes for every group
abbrev pub log_space : ℕ → ℕ
log_space groups = bit_map_length groups + 2 * groups

-- a group's bit: it stands if the map of its changed tracks is not zero
unfoldable pub standing : ℕ → ℕ
standing m = cond (eqb m 0) 0 1

-- byte b of the bit map: the bits of groups 8 b to 8 b + 7, and zero behind the last group
unfoldable pub bit_map_byte : List ℕ → ℕ → ℕ
bit_map_byte maps b = of_bits (tabulate 8 (λ i. standing (get_or maps (8 * b + i) 0)))

unfoldable pub bit_map : List ℕ → List ℕ
bit_map maps = tabulate (bit_map_length (length maps)) (bit_map_byte maps)

-- the bytes of a group whose map of changed tracks this is: none, or the two of the map
unfoldable pub map_bytes : ℕ → List ℕ
map_bytes m = cond (eqb m 0) [] (m % 256 ∷ m / 256 ∷ [])

-- the log of the maps of changed tracks, one for each group
unfoldable pub log_of : List ℕ → List ℕ
log_of maps = bit_map maps ++ blocks (length maps) (λ g. map_bytes (get_or maps g 0))

-- "A mark is one track bit of one group."
unfoldable pub marks : List ℕ → ℕ
marks maps = total (length maps) (λ g. ones (get_or maps g 0))

-- the marks of each track, track 0 first (document 02, "2.7")
unfoldable pub track_marks : List ℕ → List ℕ
track_marks maps = bit_counts tracks maps
