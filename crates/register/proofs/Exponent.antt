-- An exponent is shown by two computed tests, and powers may be taken modulo it.
-- Assumes nothing.
use mathlib.Core.Path.{◌≡◌, sym, ap, subst, ◌∙◌}
use mathlib.Core.Bool.{not}
use Prim.Native.Nat.{ℕ, zero, suc, ◌+◌, ◌-◌, ◌*◌, ◌/◌, ◌%◌, ◌^◌, ◌<◌, ◌≤◌}
use native.Mathlib.Nat.{zero-lt-suc, lt_irrefl, le_of_suc-le-suc, zero-mul, suc-mul, mul-le-mul_left, div-add-mod'}
use native.Mathlib.Omega.{arith}
use lib.Dec.{T, eqb, eqb→eq, eqb_refl, T_not}
use Rattle.indexed.specs.Test.{all_below}
use Rattle.indexed.proofs.Test.{tested}
use Rattle.register.specs.Shift.{shifts}
use Rattle.register.specs.Exponent.{Exponent}
use Rattle.register.proofs.Shift.{shifts_lt, shifts_add}

-- the tests: power n + 1 keeps every value, and none of powers 1 to n keeps 1
pub exponent : (w f n : ℕ) → T (all_below (2 ^ w) (λ a. eqb (shifts w f (suc n) a) a))
    → T (all_below n (λ k. not (eqb (shifts w f (suc k) 1) 1))) → Exponent w f (suc n)
exponent w f n keeps moves = record {
  positive = zero-lt-suc n;
  identity = λ a h. eqb→eq _ _ (tested (2 ^ w) _ keeps a h);
  first = first;
}
  where
    first : (k : ℕ) → 0 < k → k < suc n → shifts w f k 1 ≡ 1 → ⊥
    first zero h below e = lt_irrefl 0 h
    first (suc k) h below e =
        T_not (eqb (shifts w f (suc k) 1) 1) (tested n _ moves k (le_of_suc-le-suc below))
        (subst (λ (m : ℕ). T (eqb m 1)) (sym e) (eqb_refl 1))

module _ (w f n : ℕ) (x : Exponent w f n) (fits : f < 2 ^ w) where
  pub multiples : (q a : ℕ) → a < 2 ^ w → shifts w f (q * n) a ≡ a
  unfolding shifts
  multiples zero a h = ap (λ (k : ℕ). shifts w f k a) (zero-mul n)
  multiples (suc q) a h =
      ap (λ (k : ℕ). shifts w f k a) (suc-mul q n)
      ∙ shifts_add w f (q * n) n a
      ∙ ap (shifts w f (q * n)) (x.identity a h)
      ∙ multiples q a h

  pub shifts_mod : (k a : ℕ) → a < 2 ^ w → shifts w f (k % n) a ≡ shifts w f k a
  shifts_mod k a h =
      sym (ap (λ (j : ℕ). shifts w f j a) (sym (div-add-mod' k n))
      ∙ shifts_add w f (k / n * n) (k % n) a
      ∙ multiples (k / n) (shifts w f (k % n) a) (shifts_lt w f (k % n) a fits h))

  -- so a power of the shift takes no two values to one
  pub shifts_injective : (k a b : ℕ) → a < 2 ^ w → b < 2 ^ w → shifts w f k a ≡ shifts w f k b → a ≡ b
  shifts_injective k a b ha hb e = sym (round a ha) ∙ ap (shifts w f (k * n - k)) e ∙ round b hb
    where
      round : (c : ℕ) → c < 2 ^ w → shifts w f (k * n - k) (shifts w f k c) ≡ c
      round c h =
          let whole : k * n - k + k ≡ k * n = omega (arith, mul-le-mul_left k x.positive) in
          sym (shifts_add w f (k * n - k) k c) ∙ ap (λ (j : ℕ). shifts w f j c) whole ∙ multiples k c h

  -- and the power n - k undoes the power k
  pub shifts_back : (k a : ℕ) → k ≤ n → a < 2 ^ w → shifts w f k (shifts w f (n - k) a) ≡ a
  shifts_back k a b h =
      let whole : k + (n - k) ≡ n = omega arith in
      sym (shifts_add w f k (n - k) a) ∙ ap (λ (j : ℕ). shifts w f j a) whole ∙ x.identity a h
