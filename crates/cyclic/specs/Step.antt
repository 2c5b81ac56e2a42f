-- One step of the two registers (document 003, figure 1; document 01, "The 800 record").
-- Assumes nothing.
use Rattle.std.specs.Prelude.{◌≡◌, ℕ, ◌*◌}
use Rattle.register.specs.Xor.{◌⊕◌}
use Rattle.cyclic.specs.Constants.{times_x}
use Rattle.cyclic.specs.declared.Code800.{Code800}

-- both registers are shifted; the character is added to the check register and, if its parity is wrong, X^8 to the
-- error-pattern register
abbrev pub Advanced : Code800 → ℕ → ℕ → Code800 → Type 0
Advanced before character wrong after = (after.check ≡ times_x before.check ⊕ character) × (after.error ≡ times_x before.error ⊕ wrong * 256)
