-- A matrix of eight by eight bits as the code holds it: its eight columns in one number of 64 bits.
-- Assumes nothing.
use Rattle.std.specs.Prelude.{ℕ, ◌*◌}
use Rattle.register.specs.Bit.{bit}
use Rattle.register.specs.Sum.{xor_sum}
use Rattle.group6250.specs.Packed.{byte_at}

-- a matrix times a byte: the sum of the columns that the byte's ones pick, column k in byte k
unfoldable pub product_of : ℕ → ℕ → ℕ
product_of columns x = xor_sum 8 (λ k. bit k x * byte_at k columns)
