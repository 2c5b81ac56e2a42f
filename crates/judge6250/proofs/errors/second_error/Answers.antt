-- `judge6250::errors::second_error` meets its contract.
-- Assumes nothing.
use mathlib.Core.Path.{sym, ap, ◌∙◌}
use mathlib.Core.Bool.{Bool, cond}
use Prim.Native.Nat.{ℕ, ◌-◌}
use borrow.Author.Tests.{lt-ltb, le-ltb}
use Rattle.register.specs.Shift.{shifts}
use Rattle.register.specs.Xor.{◌⊕◌}
use Rattle.rectangular.specs.Constants.{feedback, exponent}
use Rattle.rectangular.specs.Syndrome.{erasure, second_error}
use Rattle.judge6250.proofs.errors.second_error.Goals as goal

-- both syndromes, in the scale of the first track
abbrev both : ℕ → ℕ → ℕ → ℕ
both i s1 s2 = s1 ⊕ shifts 8 feedback (exponent - i) s2

pub returns-then-second-lt-PARITY_TRACK : goal.returns-then-second-lt-PARITY_TRACK
unfolding second_error
returns-then-second-lt-PARITY_TRACK c =
    let args = c.args in
    let sum = both args.first args.s1 args.s2 in
    c.erasure_product.ensures
    ∙ ap (λ (x : ℕ). erasure 8 feedback exponent (args.second - args.first) (args.s1 ⊕ x)) c.backward_power.ensures
    ∙ sym (ap (λ (b : Bool). cond b (erasure 8 feedback exponent (args.second - args.first) sum) sum)
    (lt-ltb args.second 8 c.if-second-lt-PARITY_TRACK.true))

pub returns-else-second-lt-PARITY_TRACK : goal.returns-else-second-lt-PARITY_TRACK
unfolding second_error
returns-else-second-lt-PARITY_TRACK c =
    let args = c.args in
    let sum = both args.first args.s1 args.s2 in
    ap (λ (x : ℕ). args.s1 ⊕ x) c.backward_power.ensures
    ∙ sym (ap (λ (b : Bool). cond b (erasure 8 feedback exponent (args.second - args.first) sum) sum)
    (le-ltb args.second 8 c.if-second-lt-PARITY_TRACK.false))
