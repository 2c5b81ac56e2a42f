-- What the loop of writing a 6250 record has stored.
-- Assumes nothing.
use Rattle.std.specs.Prelude.{ℕ, ◌*◌, List, ◌++◌, drop}
use Rattle.rectangular.specs.Constants.{numbers_per_group}
use Rattle.record6250.specs.Record.{first_groups}

-- the output once the first groups are stored
unfoldable pub groups_stored : ℕ → List ℕ → List ℕ → List ℕ
groups_stored n bytes output = first_groups n bytes ++ drop (numbers_per_group * n) output
