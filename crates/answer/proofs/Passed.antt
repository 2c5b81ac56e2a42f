-- What a delivery, or a refusal by a number, says of the tests before it, in a chain of tests each of which refuses.
-- Assumes nothing.
use mathlib.Core.Bool.{Bool, true, false, cond}
use mathlib.Core.List.{List}
use mathlib.Core.Path.{◌≡◌, refl, sym}
use Prim.Native.Nat.{ℕ}
use Rattle.answer.specs.Answer.{Answer, delivered, refused}
use Rattle.answer.proofs.Apart.{not_both, same_number}

-- a test that refuses where it fails, and one that refuses where it holds
pub test_held : (b : Bool) (x : Answer) (n p : ℕ) (figures : List ℕ) → cond b x (refused n p) ≡ delivered figures
    → (b ≡ true) × (x ≡ delivered figures)
test_held true x n p figures e = (refl, e)
test_held false x n p figures e = absurd (not_both figures n p (sym e))

pub test_failed : (b : Bool) (x : Answer) (n p : ℕ) (figures : List ℕ) → cond b (refused n p) x ≡ delivered figures
    → (b ≡ false) × (x ≡ delivered figures)
test_failed true x n p figures e = absurd (not_both figures n p (sym e))
test_failed false x n p figures e = (refl, e)

-- the same of a refusal by another number
pub held_before : (b : Bool) (x : Answer) (n p m q : ℕ) → (n ≡ m → ⊥) → cond b x (refused n p) ≡ refused m q → (b ≡ true) × (x ≡ refused m q)
held_before true x n p m q other e = (refl, e)
held_before false x n p m q other e = absurd (other (same_number n m p q e))

pub failed_before : (b : Bool) (x : Answer) (n p m q : ℕ) → (n ≡ m → ⊥) → cond b (refused n p) x ≡ refused m q → (b ≡ false) × (x ≡ refused m q)
failed_before true x n p m q other e = absurd (other (same_number n m p q e))
failed_before false x n p m q other e = (refl, e)
