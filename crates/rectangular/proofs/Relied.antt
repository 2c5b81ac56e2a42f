-- The pointed tracks that are relied on, by whether all words are legal and how many there are.
-- Assumes nothing.
use mathlib.Core.Path.{◌≡◌, refl, ap}
use mathlib.Core.Bool.{Bool, true, false, cond}
use Prim.Native.Nat.{ℕ}
use borrow.Author.Tests.{eqb-true, eq-eqb, ne_eqb}
use lib.ListN.{length}
use Rattle.indexed.proofs.Test.{both_true}
use Rattle.rectangular.specs.Correction.{pointed_tracks}
use Rattle.rectangular.specs.Relied.{one_pointer, relied_on}

-- nothing is pointed
pub relied_none : (legal : Bool) → relied_on legal 0 ≡ 0
unfolding relied_on
relied_none legal = by (one_pointer legal 0)
  where
    by : (b : Bool) → ◌≡◌ {A = ℕ} (cond b 0 0) 0
    by true = refl
    by false = refl

module _ (legal : Bool) (pointers : ℕ) where
  -- just one is, by the drive only
  pub one_told : one_pointer legal pointers ≡ true → (legal ≡ true) × (length (pointed_tracks 9 pointers) ≡ 1)
  unfolding one_pointer
  one_told e = let both = both_true legal _ e in (both.0, eqb-true _ 1 both.1)

  pub relied_one : one_pointer legal pointers ≡ true → relied_on legal pointers ≡ 0
  unfolding relied_on
  relied_one e = ap (λ (b : Bool). cond b 0 pointers) e

  -- else
  pub relied_others : one_pointer legal pointers ≡ false → relied_on legal pointers ≡ pointers
  unfolding relied_on
  relied_others e = ap (λ (b : Bool). cond b 0 pointers) e

module _ (pointers : ℕ) where
  pub is_one : length (pointed_tracks 9 pointers) ≡ 1 → one_pointer true pointers ≡ true
  unfolding one_pointer
  is_one e = eq-eqb _ 1 e

  pub illegal_not_one : one_pointer false pointers ≡ false
  unfolding one_pointer
  illegal_not_one = refl

  pub others_not_one : (legal : Bool) → (length (pointed_tracks 9 pointers) ≡ 1 → ⊥) → one_pointer legal pointers ≡ false
  unfolding one_pointer
  others_not_one true e = ne_eqb _ 1 e
  others_not_one false e = refl
