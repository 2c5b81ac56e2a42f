-- The rows of a picture.
-- Assumes nothing.
use Rattle.std.specs.Prelude.{ℕ, ◌+◌, ◌*◌, List, get_or}
use Rattle.indexed.specs.List.{tabulate}
use Rattle.rectangular.specs.Constants.{tracks, most_groups}
use Rattle.bench.specs.declared.picture.Column.{Column}
use Rattle.bench.specs.declared.picture.Column.TheVariants.{Group, Run}

-- the marks of a track in so many columns, from a column on
unfoldable pub row_of : List ℕ → ℕ → ℕ → ℕ → List ℕ
row_of marks track from count = tabulate count (λ k. get_or marks (tracks * (from + k) + track) 0)

-- a picture has a column for each group, of which one more is read than a record has; one of characters has fewer columns
abbrev pub most_columns : ℕ
most_columns = most_groups + 1

-- the first group of a column, or its first character
abbrev pub first_of : Column → ℕ → ℕ
first_of Group column = column
first_of Run column = 32 * column
