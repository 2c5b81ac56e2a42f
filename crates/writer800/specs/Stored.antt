-- What the loop of writing an 800 record has stored and gathered.
-- Assumes nothing.
use Rattle.std.specs.Prelude.{List, ◌++◌, map, ◌≡◌, ℕ, length, get_or, drop}
use Rattle.record800.specs.Record.{character_of, check_sum, longitudinal}
use Rattle.writer800.specs.declared.writer.Sums as code

-- the data characters in front of the output
unfoldable pub stored : List ℕ → List ℕ → List ℕ
stored bytes output = map character_of bytes ++ drop (length bytes) output

-- the registers after the data characters
abbrev pub sums_are : code.Sums → List ℕ → Type 0
sums_are sums bytes =
    (sums.check ≡ check_sum (length bytes) (λ k. character_of (get_or bytes k 0))) × (sums.longitudinal ≡ longitudinal (map character_of bytes))
