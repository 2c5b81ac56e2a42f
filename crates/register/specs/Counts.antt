-- How many numbers of a list have a bit, bit by bit.
-- Assumes nothing.
use Rattle.std.specs.Prelude.{ℕ, List, length, get_or}
use Rattle.indexed.specs.List.{tabulate, total}
use Rattle.register.specs.Bit.{bit}

-- how many have bit k
unfoldable pub bit_count : ℕ → List ℕ → ℕ
bit_count k numbers = total (length numbers) (λ g. bit k (get_or numbers g 0))

-- for each of the w lowest bits
unfoldable pub bit_counts : ℕ → List ℕ → List ℕ
bit_counts w numbers = tabulate w (λ k. bit_count k numbers)
