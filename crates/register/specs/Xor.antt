-- Numbers as polynomials over two elements: bit k is the coefficient of X^k (document 01, "The 6250 group").
-- Their sum is the exclusive-or, written ⊕ as in document 000, equation (11).
-- Assumes nothing.
use Rattle.std.specs.Prelude.{ℕ}
use Rattle.std.specs.Int.Bits.{bit_xor}

infixl 65 ◌⊕◌
abbrev pub ◌⊕◌ : ℕ → ℕ → ℕ
a ⊕ b = bit_xor a b
