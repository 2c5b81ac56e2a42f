-- Laws of the shift, over the width w and the feedback f: it keeps to w bits, it is linear, and powers add.
-- Assumes nothing.
use mathlib.Core.Path.{◌≡◌, refl, sym, ap, ap₂, ◌∙◌}
use Prim.Native.Nat.{ℕ, zero, suc, ◌+◌, ◌-◌, ◌*◌, ◌/◌, ◌%◌, ◌^◌, ◌<◌, ◌≤◌}
use native.Mathlib.Nat.{mod-lt, mod-eq_of_lt, div-eq_of_lt, zero-lt-suc, pow-suc, zero-add, suc-add, mul_comm, zero-mul, one-mul, div-lt_iff_lt-mul, div-eq_of_lt-le, div-add-mod'}
use native.Mathlib.Omega.{arith}
use lib.Pow.{pow_pos, pow-lt, shr-shr}
use lib.Arith.{mod-mul}
use native.Mathlib.Numerals.{one-add}
use lib.Bits.{xor_lt, xor_shr, xor_mod, xor_block, xor_self, xor_zero_r}
use Rattle.register.specs.Xor.{◌⊕◌}
use Rattle.register.specs.Shift.{shift, shifts}
use Rattle.register.proofs.Xor.{digit_ind, xor_swap}

-- the digit that a shift pushes out
pub top_lt : (w a : ℕ) → a < 2 ^ w → 2 * a / 2 ^ w < 2
top_lt w a h = (div-lt_iff_lt-mul (pow_pos w)).1 (omega arith)

times_digit_lt : (w f d : ℕ) → f < 2 ^ w → d < 2 → d * f < 2 ^ w
times_digit_lt w f d hf hd =
    digit_ind (λ (d : ℕ). d * f < 2 ^ w) (omega (arith, pow_pos w)) (omega arith) d hd

pub shift_lt : (w f a : ℕ) → f < 2 ^ w → a < 2 ^ w → shift w f a < 2 ^ w
unfolding shift
shift_lt w f a hf ha =
    xor_lt w (2 * a % 2 ^ w) (2 * a / 2 ^ w * f) (mod-lt (2 * a) (pow_pos w))
    (times_digit_lt w f (2 * a / 2 ^ w) hf (top_lt w a ha))

-- the same without the double: the digits that stay, moved up, and the one that is pushed out
pub shift_parts : (w f a : ℕ) → shift (suc w) f a ≡ (a % 2 ^ w * 2) ⊕ (a / 2 ^ w * f)
unfolding shift
shift_parts w f a = ap₂ (λ (x y : ℕ). x ⊕ y * f) stay out
  where
    half : 2 * a / 2 ≡ a
    half = omega arith

    stay : 2 * a % 2 ^ suc w ≡ a % 2 ^ w * 2
    stay =
        ap (λ (n : ℕ). 2 * a % n) (pow-suc 2 w)
        ∙ mod-mul (2 * a) (pow_pos w) (zero-lt-suc 1)
        ∙ ap (λ (n : ℕ). n % 2 ^ w * 2 + 2 * a % 2) half
        ∙ omega arith

    out : 2 * a / 2 ^ suc w ≡ a / 2 ^ w
    out = ap (λ (n : ℕ). 2 * a / 2 ^ n) (sym (one-add w)) ∙ sym (shr-shr (2 * a) 1 w) ∙ ap (λ (n : ℕ). n / 2 ^ w) half

double_xor : (a b : ℕ) → 2 * (a ⊕ b) ≡ 2 * a ⊕ 2 * b
double_xor a b =
    mul_comm 2 (a ⊕ b) ∙ sym e ∙ ap₂ ◌⊕◌ (d a) (d b)
  where
    d : (n : ℕ) → n * 2 + 0 ≡ 2 * n
    d n = omega arith

    e : (a * 2 + 0) ⊕ (b * 2 + 0) ≡ (a ⊕ b) * 2
    e = xor_block 1 a b 0 0 (omega arith) (omega arith) ∙ omega arith

pub times_digits_xor : (f d e : ℕ) → d < 2 → e < 2 → (d ⊕ e) * f ≡ d * f ⊕ e * f
times_digits_xor f d e hd he =
    digit_ind (λ (d : ℕ). (d ⊕ e) * f ≡ d * f ⊕ e * f) (ap (λ (x : ℕ). x ⊕ e * f) (sym (zero-mul f)))
    (digit_ind (λ (e : ℕ). (1 ⊕ e) * f ≡ 1 * f ⊕ e * f)
    (sym (ap (λ (x : ℕ). 1 * f ⊕ x) (zero-mul f) ∙ xor_zero_r (1 * f)))
    (zero-mul f ∙ sym (xor_self (1 * f))) e he) d hd

pub shift_xor : (w f a b : ℕ) → a < 2 ^ w → b < 2 ^ w → shift w f (a ⊕ b) ≡ shift w f a ⊕ shift w f b
unfolding shift
shift_xor w f a b ha hb =
    ap (λ (x : ℕ). (x % 2 ^ w) ⊕ (x / 2 ^ w * f)) (double_xor a b)
    ∙ ap₂ ◌⊕◌ (xor_mod (2 * a) (2 * b) w)
    (ap (λ (x : ℕ). x * f) (xor_shr (2 * a) (2 * b) w)
    ∙ times_digits_xor f (2 * a / 2 ^ w) (2 * b / 2 ^ w) (top_lt w a ha) (top_lt w b hb))
    ∙ xor_swap (2 * a % 2 ^ w) (2 * b % 2 ^ w) (2 * a / 2 ^ w * f) (2 * b / 2 ^ w * f)

-- ---- powers

pub shifts_lt : (w f k a : ℕ) → f < 2 ^ w → a < 2 ^ w → shifts w f k a < 2 ^ w
unfolding shifts
shifts_lt w f zero a hf ha = ha
shifts_lt w f (suc k) a hf ha = shift_lt w f (shifts w f k a) hf (shifts_lt w f k a hf ha)

pub shifts_xor : (w f k a b : ℕ) → f < 2 ^ w → a < 2 ^ w → b < 2 ^ w → shifts w f k (a ⊕ b) ≡ shifts w f k a ⊕ shifts w f k b
unfolding shifts
shifts_xor w f zero a b hf ha hb = refl
shifts_xor w f (suc k) a b hf ha hb =
    ap (shift w f) (shifts_xor w f k a b hf ha hb)
    ∙ shift_xor w f (shifts w f k a) (shifts w f k b) (shifts_lt w f k a hf ha) (shifts_lt w f k b hf hb)

pub shifts_add : (w f j k a : ℕ) → shifts w f (j + k) a ≡ shifts w f j (shifts w f k a)
unfolding shifts
shifts_add w f zero k a = ap (λ (n : ℕ). shifts w f n a) (zero-add k)
shifts_add w f (suc j) k a =
    ap (λ (n : ℕ). shifts w f n a) (suc-add j k) ∙ ap (shift w f) (shifts_add w f j k a)

-- one shift made, one less left: a turn of a loop that shifts
pub shifts_turn : (w f k a : ℕ) → 0 < k → shifts w f (k - 1) (shift w f a) ≡ shifts w f k a
unfolding shifts
shifts_turn w f k a h =
    let again : k - 1 + 1 ≡ k = omega arith in
    sym (shifts_add w f (k - 1) 1 a) ∙ ap (λ (n : ℕ). shifts w f n a) again

pub shifts_zero : (w f k : ℕ) → shifts w f k 0 ≡ 0
unfolding shifts shift
shifts_zero w f zero = refl
shifts_zero w f (suc k) = ap (shift w f) (shifts_zero w f k) ∙ none
  where
    none : shift w f 0 ≡ 0
    none =
        ap₂ (λ (x y : ℕ). x ⊕ y * f) (mod-eq_of_lt (pow_pos w)) (div-eq_of_lt (pow_pos w)) ∙ zero-mul f

-- a shift that pushes no digit out doubles
pub shift_low : (w f a : ℕ) → 2 * a < 2 ^ w → shift w f a ≡ 2 * a
unfolding shift
shift_low w f a h =
    ap₂ (λ (x y : ℕ). x ⊕ y * f) (mod-eq_of_lt h) (div-eq_of_lt h)
    ∙ ap (λ (y : ℕ). 2 * a ⊕ y) (zero-mul f)
    ∙ xor_zero_r (2 * a)

-- so the powers below w of 1 are its places
pub shifts_of_one : (w f k : ℕ) → k < w → shifts w f k 1 ≡ 2 ^ k
unfolding shifts
shifts_of_one w f zero h = refl
shifts_of_one w f (suc k) h =
    let power : 2 ^ suc k ≡ 2 * 2 ^ k = omega arith in
    ap (shift w f) (shifts_of_one w f k (omega arith))
    ∙ shift_low w f (2 ^ k) (rw (← power) (pow-lt h))
    ∙ sym power

-- and those of a digit are its places
pub shifts_place : (w f k d : ℕ) → k < w → d < 2 → shifts w f k d ≡ d * 2 ^ k
shifts_place w f k d hk hd =
    digit_ind (λ (d : ℕ). shifts w f k d ≡ d * 2 ^ k) (shifts_zero w f k ∙ sym (zero-mul (2 ^ k)))
    (shifts_of_one w f k hk ∙ sym (one-mul (2 ^ k))) d hd

-- a shift that pushes a digit out adds X^w + f to the double
pub shift_high : (w f a : ℕ) → f < 2 ^ w → a < 2 ^ w → 2 ^ w ≤ 2 * a → shift w f a ≡ 2 * a ⊕ (2 ^ w + f)
unfolding shift
shift_high w f a hf ha h =
    let out : 2 * a / 2 ^ w ≡ 1 = div-eq_of_lt-le (2 ^ w) (omega arith) (omega arith) in
    let double : 1 * 2 ^ w + 2 * a % 2 ^ w ≡ 2 * a = rw out at (div-add-mod' (2 * a) (2 ^ w)) in
    let added = xor_block w 1 1 (2 * a % 2 ^ w) f (mod-lt (2 * a) (pow_pos w)) hf in
    ap (λ (y : ℕ). (2 * a % 2 ^ w) ⊕ y) (ap (λ (d : ℕ). d * f) out ∙ one-mul f)
    ∙ omega (arith, added)
    ∙ ap₂ (λ (x y : ℕ). x ⊕ (y + f)) double (one-mul (2 ^ w))
