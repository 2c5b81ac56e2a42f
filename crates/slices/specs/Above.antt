-- Where a list first goes above a limit.
-- Assumes nothing.
use Rattle.std.specs.Prelude.{ℕ, List, ltb}
use Rattle.indexed.specs.List.{first_where}

-- the index of the first value above the limit, or the number of values where none is
unfoldable pub first_above : ℕ → List ℕ → ℕ
first_above limit values = first_where (λ v. ltb limit v) values
