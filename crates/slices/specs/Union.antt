-- The bits that stand in any of a list's values.
-- Assumes nothing.
use Rattle.std.specs.Prelude.{ℕ, zero, suc, List, length, get_or}
use Rattle.std.specs.Int.Bits.{bit_or}

-- those of the first n values, and those of all
unfoldable pub union_to : ℕ → List ℕ → ℕ
union_to zero values = zero
union_to (suc n) values = bit_or (union_to n values) (get_or values n 0)

unfoldable pub union_of : List ℕ → ℕ
union_of values = union_to (length values) values
