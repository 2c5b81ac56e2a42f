-- A 6250 reading and its forward picture (document 01, "The 6250 record" and "Backward"): the numbers of each group, and a pointer map a
-- group, bit i for track i. Backward, groups and maps come last first.
-- Assumes nothing.
use Rattle.std.specs.Prelude.{ℕ, ◌*◌, ◌/◌, Bool, true, List, ◌++◌, length, get_or, drop}
use Rattle.indexed.specs.List.{tabulate, blocks}
use Rattle.slices.specs.Turned.{turned_place}
use Rattle.rectangular.specs.Constants.{numbers_per_group}
use Rattle.record6250.specs.Tape.{numbers_at, words_from, turned_group}

-- the numbers of group g as they were lent, and its nine words
unfoldable pub group_lent : Bool → ℕ → List ℕ → ℕ → List ℕ
group_lent backward groups numbers g = numbers_at numbers (numbers_per_group * turned_place backward groups g)

unfoldable pub group_read : Bool → ℕ → List ℕ → ℕ → List ℕ
group_read backward groups numbers g = words_from backward (group_lent backward groups numbers g)

-- the drive's pointer map for group g
unfoldable pub map_read : Bool → ℕ → List ℕ → ℕ → ℕ
map_read backward groups maps g = get_or maps (turned_place backward groups g) 0

-- the maps in forward order
unfoldable pub picture_maps : Bool → List ℕ → List ℕ
picture_maps backward maps = tabulate (length maps) (map_read backward (length maps) maps)

-- numbers as they pass the head the other way. Where they are no whole groups, which is refused, what is left over stays behind.
unfoldable pub turned_numbers : List ℕ → List ℕ
turned_numbers numbers =
    blocks (length numbers / numbers_per_group) (λ g. turned_group (group_lent true (length numbers / numbers_per_group) numbers g))
    ++ drop (numbers_per_group * (length numbers / numbers_per_group)) numbers
