-- Sums of polynomials over two elements, term by term.
-- Assumes nothing.
use Rattle.std.specs.Prelude.{ℕ, zero, suc}
use Rattle.register.specs.Xor.{◌⊕◌}

-- g 0 ⊕ g 1 ⊕ .. ⊕ g (n - 1)
unfoldable pub xor_sum : ℕ → (ℕ → ℕ) → ℕ
xor_sum zero g = zero
xor_sum (suc n) g = xor_sum n g ⊕ g n
