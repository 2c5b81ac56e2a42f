-- That a polynomial suits the code is shown by computed tests; the nine-track code's does.
-- Assumes nothing.
use mathlib.Core.Path.{◌≡◌, refl, sym, subst}
use mathlib.Core.Bool.{Bool, not}
use Prim.Native.Nat.{ℕ, zero, suc, ◌-◌, ◌^◌, ◌<◌}
use native.Mathlib.Nat.{lt_irrefl}
use native.Mathlib.Omega.{arith}
use lib.Dec.{T, eqb, ltb, ltb→lt, eqb_refl, T_not}
use Rattle.indexed.specs.Test.{all_below}
use Rattle.indexed.proofs.Test.{tested}
use Rattle.register.specs.Exponent.{Exponent}
use Rattle.register.specs.Shift.{shift, shifts}
use Rattle.rectangular.specs.Constants.{feedback, exponent}
use Rattle.rectangular.specs.Group.{Suits}
use Rattle.rectangular.proofs.Constants.{exponent_of_T}

-- power k + 1 moves a + 1
abbrev pub moves : ℕ → ℕ → ℕ → ℕ → Bool
moves w f k a = not (eqb (shifts w f (suc k) (suc a)) (suc a))

pub suits : (w f n : ℕ) → T (ltb 0 w) → T (ltb f (2 ^ w)) → Exponent w f n
    → T (all_below (w - 1) (λ k. all_below (2 ^ w - 1) (moves w f k))) → Suits w f
suits w f n positive fits x test = record {
  positive = ltb→lt 0 w positive;
  fits = ltb→lt f (2 ^ w) fits;
  exponent = n;
  is_exponent = x;
  keeps_none = keeps_none;
}
  where
    keeps_none : (k : ℕ) → 0 < k → k < w → (a : ℕ) → a < 2 ^ w → shifts w f k a ≡ a → a ≡ 0
    keeps_none zero p h a b e = absurd (lt_irrefl 0 p)
    keeps_none (suc k) p h zero b e = refl
    keeps_none (suc k) p h (suc a) b e =
        absurd
        (T_not (eqb (shifts w f (suc k) (suc a)) (suc a))
        (tested (2 ^ w - 1) (moves w f k) (tested (w - 1) _ test k (omega arith)) a (omega arith))
        (subst (λ (x : ℕ). T (eqb x (suc a))) (sym e) (eqb_refl (suc a))))

pub nine_tracks : Suits 8 feedback
unfolding shift shifts
nine_tracks = suits 8 feedback exponent tt tt exponent_of_T tt
