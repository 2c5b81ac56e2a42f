-- A matrix over two elements, by its columns, the first of which goes with bit 0.
-- Assumes nothing.
use Rattle.std.specs.Prelude.{List, [], ◌∷◌, ℕ, ◌*◌, ◌/◌, ◌%◌}
use Rattle.register.specs.Xor.{◌⊕◌}

-- its product with a number: the sum of the columns that the number's ones pick
abbrev pub product : List ℕ → ℕ → ℕ
product [] n = 0
product (column ∷ columns) n = n % 2 * column ⊕ product columns (n / 2)
