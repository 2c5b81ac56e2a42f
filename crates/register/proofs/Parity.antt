-- Laws of parity: that of a sum is the sum of the parities, of n odd terms it is n's, and a shift by an odd feedback keeps it, over
-- the width.
-- Assumes nothing.
use mathlib.Core.Path.{◌≡◌, refl, sym, ap, ap₂, ◌∙◌}
use Prim.Native.Nat.{ℕ, zero, suc, ◌+◌, ◌*◌, ◌/◌, ◌%◌, ◌^◌, ◌≤◌, ◌<◌}
use native.Mathlib.Nat.{le_refl, not-suc-le-zero, zero-lt-suc, mod-lt, zero-mul, one-mul}
use native.Mathlib.Decide.{le_ind}
use native.Mathlib.Omega.{arith}
use lib.Arith.{bin_ind, half_le}
use lib.Bits.{differ, xor_comm, xor_mod, xor_shifted}
use lib.Pow.{pow_pos, split}
use Rattle.indexed.specs.List.{total}
use Rattle.indexed.proofs.Test.{equal₂}
use Rattle.indexed.proofs.Total.{total_same, total_ones}
use Rattle.register.specs.Xor.{◌⊕◌}
use Rattle.register.specs.Parity.{parity, parity_digits}
use Rattle.register.specs.Shift.{shift, shifts}
use Rattle.register.specs.Sum.{xor_sum}
use Rattle.register.proofs.Xor.{digit_ind, odd_lt, differ_lt, xor_half, xor_swap}
use Rattle.register.proofs.Shift.{top_lt, shifts_lt}

-- ---- digit by digit

more : (n a : ℕ) → a ≤ n → parity_digits (suc n) a ≡ parity_digits n a
unfolding parity_digits
more zero zero h = refl
more zero (suc a) h = absurd (not-suc-le-zero h)
more (suc n) zero h = refl
more (suc n) (suc a) h = ap (λ (x : ℕ). differ (suc a % 2) x) (more n (suc a / 2) (half_le h))

enough : (n a : ℕ) → a ≤ n → parity_digits n a ≡ parity_digits a a
enough n a h = le_ind (λ (m : ℕ). parity_digits m a ≡ parity_digits a a) refl (λ m k e. more m a k ∙ e) n h

next_digit : (a : ℕ) → parity a ≡ differ (a % 2) (parity (a / 2))
unfolding parity parity_digits
next_digit zero = refl
next_digit (suc a) = ap (λ (x : ℕ). differ (suc a % 2) x) (enough a (suc a / 2) (half_le (le_refl (suc a))))

pub parity_lt : (a : ℕ) → parity a < 2
unfolding parity parity_digits
parity_lt a =
    bin_ind (λ (a : ℕ). parity a < 2) (zero-lt-suc 1)
    (λ a ih. rw (next_digit a) (differ_lt (a % 2) (parity (a / 2)) (odd_lt a) ih)) a

differ_digits : (x y : ℕ) → x < 2 → y < 2 → differ x y ≡ x ⊕ y
differ_digits = equal₂ 2 2 differ ◌⊕◌ tt

-- the lowest digit, and the parity of the others
parity_step : (a : ℕ) → parity a ≡ (a % 2) ⊕ parity (a / 2)
parity_step a = next_digit a ∙ differ_digits (a % 2) (parity (a / 2)) (odd_lt a) (parity_lt (a / 2))

-- ---- sums

zero_xor : (b : ℕ) → parity (0 ⊕ b) ≡ parity 0 ⊕ parity b
unfolding parity parity_digits
zero_xor b = refl

pub parity_xor : (a b : ℕ) → parity (a ⊕ b) ≡ parity a ⊕ parity b
parity_xor a = bin_ind (λ (a : ℕ). (b : ℕ) → parity (a ⊕ b) ≡ parity a ⊕ parity b) zero_xor step a
  where
    step : (a : ℕ) → ((b : ℕ) → parity (a / 2 ⊕ b) ≡ parity (a / 2) ⊕ parity b) → (b : ℕ) → parity (a ⊕ b) ≡ parity a ⊕ parity b
    step a ih b =
        parity_step (a ⊕ b)
        ∙ ap₂ ◌⊕◌ (xor_mod a b 1) (ap parity (xor_half a b) ∙ ih (b / 2))
        ∙ xor_swap (a % 2) (b % 2) (parity (a / 2)) (parity (b / 2))
        ∙ ap₂ ◌⊕◌ (sym (parity_step a)) (sym (parity_step b))

pub sum_parity : (n : ℕ) (g : ℕ → ℕ) → parity (xor_sum n g) ≡ xor_sum n (λ k. parity (g k))
unfolding xor_sum parity parity_digits
sum_parity zero g = refl
sum_parity (suc n) g = parity_xor (xor_sum n g) (g n) ∙ ap (λ (x : ℕ). x ⊕ parity (g n)) (sum_parity n g)

-- one digit more
pub odd_more : (t d : ℕ) → d < 2 → (t % 2) ⊕ d ≡ (t + d) % 2
odd_more t d h = equal₂ 2 2 (λ r d. r ⊕ d) (λ r d. (r + d) % 2) tt (t % 2) d (odd_lt t) h ∙ omega arith

-- a sum of digits tells whether their number is odd
pub sum_digits : (n : ℕ) (d : ℕ → ℕ) → ((k : ℕ) → k < n → d k < 2) → xor_sum n d ≡ total n d % 2
unfolding xor_sum total
sum_digits zero d h = refl
sum_digits (suc n) d h =
    ap (λ (x : ℕ). x ⊕ d n) (sum_digits n d (λ k b. h k (omega arith))) ∙ odd_more (total n d) (d n) (h n (le_refl (suc n)))

-- of n odd terms
pub sum_odd : (n : ℕ) (g : ℕ → ℕ) → ((k : ℕ) → k < n → parity (g k) ≡ 1) → parity (xor_sum n g) ≡ n % 2
sum_odd n g h =
    sum_parity n g
    ∙ sum_digits n (λ k. parity (g k)) (λ k b. parity_lt (g k))
    ∙ ap (λ (m : ℕ). m % 2) (total_same n (λ k. parity (g k)) (λ k. 1) h ∙ total_ones n)

-- ---- products: a digit at a place, and the double

parity_times : (d a : ℕ) → d < 2 → parity a ≡ 1 → parity (d * a) ≡ d
unfolding parity parity_digits
parity_times d a h odd =
    digit_ind (λ (d : ℕ). parity (d * a) ≡ d) (ap parity (zero-mul a)) (ap parity (one-mul a) ∙ odd) d h

parity_double : (a : ℕ) → parity (2 * a) ≡ parity a
parity_double a =
    let even : 2 * a % 2 ≡ 0 = omega arith in
    let half : 2 * a / 2 ≡ a = omega arith in
    parity_step (2 * a) ∙ ap₂ (λ (x y : ℕ). x ⊕ parity y) even half

parity_power : (j : ℕ) → parity (2 ^ j) ≡ 1
unfolding parity parity_digits
parity_power zero = refl
parity_power (suc j) =
    let power : 2 ^ suc j ≡ 2 * 2 ^ j = omega arith in
    ap parity power ∙ parity_double (2 ^ j) ∙ parity_power j

pub parity_place : (d j : ℕ) → d < 2 → parity (d * 2 ^ j) ≡ d
parity_place d j h = parity_times d (2 ^ j) h (parity_power j)

-- ---- the shift: what it pushes out comes back as the feedback, and both are odd

module _ (w f : ℕ) (odd : parity f ≡ 1) where
  pub shift_parity : (a : ℕ) → a < 2 ^ w → parity (shift w f a) ≡ parity a
  unfolding shift
  shift_parity a h =
      let out : ℕ = 2 * a / 2 ^ w in
      let kept : ℕ = 2 * a % 2 ^ w in
      parity_xor kept (out * f)
      ∙ ap (λ (x : ℕ). parity kept ⊕ x) (parity_times out f (top_lt w a h) odd ∙ sym (parity_place out w (top_lt w a h)))
      ∙ sym (parity_xor kept (out * 2 ^ w))
      ∙ ap parity (xor_comm kept (out * 2 ^ w) ∙ xor_shifted out w kept (mod-lt (2 * a) (pow_pos w)) ∙ split (2 * a) w)
      ∙ parity_double a

  pub shifts_parity : (k a : ℕ) → f < 2 ^ w → a < 2 ^ w → parity (shifts w f k a) ≡ parity a
  unfolding shifts
  shifts_parity zero a hf h = refl
  shifts_parity (suc k) a hf h = shift_parity (shifts w f k a) (shifts_lt w f k a hf h) ∙ shifts_parity k a hf h
