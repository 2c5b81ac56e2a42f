-- The exponent of a polynomial (document 000, equation (7)): the first positive power of the shift that is the identity.
-- Assumes nothing.
use Rattle.std.specs.Prelude.{◌≡◌, ℕ, ◌^◌, ◌<◌}
use Rattle.register.specs.Shift.{shifts}

pub record Exponent (w f n : ℕ) : Type 0 where
  pub positive : 0 < n
  pub identity : (a : ℕ) → a < 2 ^ w → shifts w f n a ≡ a
  -- a smaller positive power is not the identity, since it moves 1
  pub first : (k : ℕ) → 0 < k → k < n → shifts w f k 1 ≡ 1 → ⊥
