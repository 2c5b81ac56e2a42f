-- `cyclic::Code800::entered` meets its contract.
-- Assumes nothing.
use mathlib.Core.Path.{ap}
use Prim.Native.Nat.{ℕ, ◌*◌}
use Rattle.register.specs.Xor.{◌⊕◌}
use Rattle.cyclic.proofs.Code800.entered.Goals as goal

pub returns : goal.returns
returns c =
    let args = c.args in
    (ap (λ (x : ℕ). x ⊕ args.character) c.shift.ensures, ap (λ (x : ℕ). x ⊕ args.wrong * 256) c.shift-2.ensures)
