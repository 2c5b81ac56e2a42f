-- An answer made of another call's: it is a delivery exactly if that one is, and its refusals are that one's.
-- Assumes nothing.
use mathlib.Core.List.{List}
use mathlib.Core.Path.{◌≡◌, refl, sym, ap}
use Prim.Native.Nat.{ℕ}
use Rattle.answer.specs.Answer.{Answer, delivered, refused, retold}
use Rattle.answer.proofs.Apart.{not_both}
use Rattle.answer.proofs.Listed.{Listed, listed_delivery}

-- what a delivery tells is made of what that call tells
pub retold_delivered : (tells : List ℕ → List ℕ) (answer : Answer) (figures : List ℕ) → retold tells answer ≡ delivered figures
    → (told : List ℕ) × (answer ≡ delivered told) × (figures ≡ tells told)
retold_delivered tells (delivered told) figures e = (told, refl, cc)
retold_delivered tells (refused number place) figures e = absurd (not_both figures number place (sym e))

-- the same figures of a delivery, the same answer: a refusal has none
pub retold_same : (tells others : List ℕ → List ℕ) (answer : Answer) → ((told : List ℕ) → answer ≡ delivered told → tells told ≡ others told)
    → retold tells answer ≡ retold others answer
retold_same tells others (delivered told) same = ap delivered (same told refl)
retold_same tells others (refused number place) same = refl

-- a refusal is listed if that one is
pub listed_retold : (bound : ℕ → ℕ) (tells : List ℕ → List ℕ) (answer : Answer) → Listed bound answer → Listed bound (retold tells answer)
listed_retold bound tells (delivered figures) listed = listed_delivery bound _
listed_retold bound tells (refused number place) listed = listed
