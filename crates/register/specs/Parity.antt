-- The parity of a number: 1 if it has an odd number of ones, else 0.
-- Assumes nothing.
use Rattle.std.specs.Prelude.{ℕ, zero, suc, ◌/◌, ◌%◌}
use Rattle.std.specs.Int.Bits.{differ}

-- the recursion is on a count of digits to go, for which the number itself serves; it stops when no one is left
unfoldable pub parity_digits : ℕ → ℕ → ℕ
parity_digits zero a = zero
parity_digits (suc n) zero = zero
parity_digits (suc n) (suc a) = differ (suc a % 2) (parity_digits n (suc a / 2))

unfoldable pub parity : ℕ → ℕ
parity a = parity_digits a a
