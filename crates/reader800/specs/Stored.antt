-- What a pass over a reading stores.
-- Assumes nothing.
use Rattle.std.specs.Prelude.{ℕ, ◌%◌, List}
use Rattle.indexed.specs.List.{tabulate}
use Rattle.record800.specs.Read.{candidate}

-- the data of the candidate for a track
unfoldable pub stored_data : ℕ → List ℕ → ℕ → List ℕ
stored_data n characters track = tabulate n (λ k. candidate n characters track k % 256)
