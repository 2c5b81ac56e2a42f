-- A number as the list of its bits, lowest first.
-- Assumes nothing.
use Rattle.std.specs.Prelude.{ℕ, zero, ◌+◌, ◌*◌, ◌/◌, ◌%◌, ◌^◌, List, [], ◌∷◌}
use Rattle.indexed.specs.List.{tabulate}

-- bit k of a, which has weight 2^k
unfoldable pub bit : ℕ → ℕ → ℕ
bit k a = a / 2 ^ k % 2

-- the w lowest bits
unfoldable pub bits_of : ℕ → ℕ → List ℕ
bits_of w a = tabulate w (λ k. bit k a)

-- the number whose bits these are
unfoldable pub of_bits : List ℕ → ℕ
of_bits [] = zero
of_bits (b ∷ bs) = b + 2 * of_bits bs
