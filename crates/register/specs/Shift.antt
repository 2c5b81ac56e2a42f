-- A register of w bits, shifted once: the polynomial in it times X, modulo X^w + f (document 000, equation (1) and
-- figure 7; document 003, figure 1). The feedback f is what X^w leaves.
-- Assumes nothing.
use Rattle.std.specs.Prelude.{ℕ, zero, suc, ◌*◌, ◌/◌, ◌%◌, ◌^◌}
use Rattle.register.specs.Xor.{◌⊕◌}

unfoldable pub shift : ℕ → ℕ → ℕ → ℕ
shift w f a = (2 * a % 2 ^ w) ⊕ (2 * a / 2 ^ w * f)

-- the k-th power of the shift
unfoldable pub shifts : ℕ → ℕ → ℕ → ℕ → ℕ
shifts w f zero a = a
shifts w f (suc k) a = shift w f (shifts w f k a)
