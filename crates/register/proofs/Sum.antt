-- Laws of sums term by term: they are linear, their order may be exchanged, a shift goes into them, where all terms but one or
-- two are zero the sum is those, and neighbours cancel or pair.
-- Assumes nothing.
use mathlib.Core.Path.{◌≡◌, refl, sym, ap, ap₂, ◌∙◌}
use Prim.Native.Nat.{ℕ, zero, suc, ◌*◌, ◌/◌, ◌%◌, ◌^◌, ◌<◌}
use native.Mathlib.Nat.{le_refl, lt_irrefl, not-suc-le-zero, mod-eq_of_lt, div-eq_of_lt}
use native.Mathlib.Decide.{ℕ_discrete}
use native.Mathlib.Omega.{arith}
use lib.Pow.{pow_pos}
use lib.Bits.{xor_lt, xor_self, xor_zero_r, xor_shr, xor_mod}
use Rattle.register.specs.Xor.{◌⊕◌}
use Rattle.register.specs.Shift.{shifts}
use Rattle.register.specs.Sum.{xor_sum}
use Rattle.register.proofs.Xor.{xor_assoc, xor_cancel, xor_swap}
use Rattle.register.proofs.Shift.{shifts_xor, shifts_zero}

-- the same terms, the same sum
pub sum_ext : (n : ℕ) (g h : ℕ → ℕ) → ((k : ℕ) → k < n → g k ≡ h k) → xor_sum n g ≡ xor_sum n h
unfolding xor_sum
sum_ext zero g h e = refl
sum_ext (suc n) g h e = ap₂ ◌⊕◌ (sum_ext n g h (λ k b. e k (omega arith))) (e n (le_refl (suc n)))

pub sum_lt : (w n : ℕ) (g : ℕ → ℕ) → ((k : ℕ) → k < n → g k < 2 ^ w) → xor_sum n g < 2 ^ w
unfolding xor_sum
sum_lt w zero g h = pow_pos w
sum_lt w (suc n) g h = xor_lt w (xor_sum n g) (g n) (sum_lt w n g (λ k b. h k (omega arith))) (h n (le_refl (suc n)))

-- ---- linear

pub sum_zero : (n : ℕ) (g : ℕ → ℕ) → ((k : ℕ) → k < n → g k ≡ 0) → xor_sum n g ≡ 0
unfolding xor_sum
sum_zero zero g h = refl
sum_zero (suc n) g h = ap₂ ◌⊕◌ (sum_zero n g (λ k b. h k (omega arith))) (h n (le_refl (suc n)))

pub sum_xor : (n : ℕ) (g h : ℕ → ℕ) → xor_sum n (λ k. g k ⊕ h k) ≡ xor_sum n g ⊕ xor_sum n h
unfolding xor_sum
sum_xor zero g h = refl
sum_xor (suc n) g h = ap (λ (x : ℕ). x ⊕ (g n ⊕ h n)) (sum_xor n g h) ∙ xor_swap (xor_sum n g) (xor_sum n h) (g n) (h n)

pub shifts_sum : (w f k n : ℕ) (g : ℕ → ℕ) → f < 2 ^ w → ((i : ℕ) → i < n → g i < 2 ^ w)
    → shifts w f k (xor_sum n g) ≡ xor_sum n (λ i. shifts w f k (g i))
unfolding xor_sum
shifts_sum w f k zero g hf h = shifts_zero w f k
shifts_sum w f k (suc n) g hf h =
    shifts_xor w f k (xor_sum n g) (g n) hf (sum_lt w n g (λ i b. h i (omega arith))) (h n (le_refl (suc n)))
    ∙ ap (λ (x : ℕ). x ⊕ shifts w f k (g n)) (shifts_sum w f k n g hf (λ i b. h i (omega arith)))

-- the lowest bits of a sum, and the others
pub sum_mod : (k n : ℕ) (g : ℕ → ℕ) → xor_sum n g % 2 ^ k ≡ xor_sum n (λ i. g i % 2 ^ k)
unfolding xor_sum
sum_mod k zero g = mod-eq_of_lt (pow_pos k)
sum_mod k (suc n) g = xor_mod (xor_sum n g) (g n) k ∙ ap (λ (x : ℕ). x ⊕ (g n % 2 ^ k)) (sum_mod k n g)

pub sum_shr : (k n : ℕ) (g : ℕ → ℕ) → xor_sum n g / 2 ^ k ≡ xor_sum n (λ i. g i / 2 ^ k)
unfolding xor_sum
sum_shr k zero g = div-eq_of_lt (pow_pos k)
sum_shr k (suc n) g = xor_shr (xor_sum n g) (g n) k ∙ ap (λ (x : ℕ). x ⊕ (g n / 2 ^ k)) (sum_shr k n g)

-- ---- a sum of sums, in the other order

pub sum_swap : (m n : ℕ) (g : ℕ → ℕ → ℕ) → xor_sum m (λ i. xor_sum n (g i)) ≡ xor_sum n (λ j. xor_sum m (λ i. g i j))
unfolding xor_sum
sum_swap zero n g = sym (sum_zero n (λ j. 0) (λ k b. refl))
sum_swap (suc m) n g =
    ap (λ (x : ℕ). x ⊕ xor_sum n (g m)) (sum_swap m n g)
    ∙ sym (sum_xor n (λ j. xor_sum m (λ i. g i j)) (g m))

-- ---- the last term apart, and the first

pub sum_last : (n : ℕ) (g : ℕ → ℕ) → xor_sum (suc n) g ≡ xor_sum n g ⊕ g n
unfolding xor_sum
sum_last n g = refl

pub sum_first : (n : ℕ) (g : ℕ → ℕ) → xor_sum (suc n) g ≡ g 0 ⊕ xor_sum n (λ k. g (suc k))
unfolding xor_sum
sum_first zero g = sym (xor_zero_r (g 0))
sum_first (suc n) g =
    ap (λ (x : ℕ). x ⊕ g (suc n)) (sum_first n g) ∙ xor_assoc (g 0) (xor_sum n (λ k. g (suc k))) (g (suc n))

-- ---- all terms zero but one, or but two

pub sum_one : (n : ℕ) (g : ℕ → ℕ) (i : ℕ) → i < n → ((k : ℕ) → k < n → (k ≡ i → ⊥) → g k ≡ 0) → xor_sum n g ≡ g i
unfolding xor_sum
sum_one zero g i h z = absurd (not-suc-le-zero h)
sum_one (suc n) g i h z = by (ℕ_discrete n i) (sum_one n g i)
  where
    by : Dec (n ≡ i) → (i < n → ((k : ℕ) → k < n → (k ≡ i → ⊥) → g k ≡ 0) → xor_sum n g ≡ g i) → xor_sum n g ⊕ g n ≡ g i
    by (yes e) ih = ap₂ ◌⊕◌ (sum_zero n g (λ k b. z k (omega arith) (λ q. lt_irrefl n (rw (q ∙ sym e) at b)))) (ap g e)
    by (no ne) ih =
        ap₂ ◌⊕◌ (ih (omega arith) (λ k b q. z k (omega arith) q)) (z n (le_refl (suc n)) ne) ∙ xor_zero_r (g i)

pub sum_two : (n : ℕ) (g : ℕ → ℕ) (i j : ℕ) → i < j → j < n
    → ((k : ℕ) → k < n → (k ≡ i → ⊥) → (k ≡ j → ⊥) → g k ≡ 0) → xor_sum n g ≡ g i ⊕ g j
unfolding xor_sum
sum_two zero g i j hi hj z = absurd (not-suc-le-zero hj)
sum_two (suc n) g i j hi hj z = by (ℕ_discrete n j) (sum_two n g i j hi)
  where
    by : Dec (n ≡ j) → (j < n → ((k : ℕ) → k < n → (k ≡ i → ⊥) → (k ≡ j → ⊥) → g k ≡ 0) → xor_sum n g ≡ g i ⊕ g j)
        → xor_sum n g ⊕ g n ≡ g i ⊕ g j
    by (yes e) ih =
        ap₂ ◌⊕◌
        (sum_one n g i (omega arith) (λ k b q. z k (omega arith) q (λ p. lt_irrefl n (rw (p ∙ sym e) at b))))
        (ap g e)
    by (no ne) ih =
        ap₂ ◌⊕◌ (ih (omega arith) (λ k b q r. z k (omega arith) q r))
        (z n (le_refl (suc n)) (λ p. omega arith) ne)
        ∙ xor_zero_r (g i ⊕ g j)

-- ---- neighbours: a sum and the sum one place on, and a sum of pairs

pub sum_telescope : (n : ℕ) (g : ℕ → ℕ) → xor_sum n g ⊕ xor_sum n (λ k. g (suc k)) ≡ g 0 ⊕ g n
unfolding xor_sum
sum_telescope zero g = sym (xor_self (g 0))
sum_telescope (suc n) g =
    xor_swap (xor_sum n g) (g n) (xor_sum n (λ k. g (suc k))) (g (suc n))
    ∙ ap (λ (x : ℕ). x ⊕ (g n ⊕ g (suc n))) (sum_telescope n g)
    ∙ xor_assoc (g 0) (g n) (g n ⊕ g (suc n))
    ∙ ap (λ (x : ℕ). g 0 ⊕ x) (xor_cancel (g n) (g (suc n)))

pub sum_pairs : (n : ℕ) (g : ℕ → ℕ) → xor_sum n (λ k. g (2 * k) ⊕ g (suc (2 * k))) ≡ xor_sum (2 * n) g
unfolding xor_sum
sum_pairs zero g = refl
sum_pairs (suc n) g =
    let twice : suc (suc (2 * n)) ≡ 2 * suc n = omega arith in
    ap (λ (x : ℕ). x ⊕ (g (2 * n) ⊕ g (suc (2 * n)))) (sum_pairs n g)
    ∙ sym (xor_assoc (xor_sum (2 * n) g) (g (2 * n)) (g (suc (2 * n))))
    ∙ ap (λ (m : ℕ). xor_sum m g) twice
