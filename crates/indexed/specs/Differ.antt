-- In how many places two lists of values differ.
-- Assumes nothing.
use Rattle.std.specs.Prelude.{ℕ, zero, suc, ◌+◌, cond, eqb}

-- the number of indices below n at which u and v differ
unfoldable pub differences : ℕ → (ℕ → ℕ) → (ℕ → ℕ) → ℕ
differences zero u v = zero
differences (suc n) u v = differences n u v + cond (eqb (u n) (v n)) 0 1
