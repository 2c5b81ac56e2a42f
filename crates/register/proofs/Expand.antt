-- A number as the sum of its bits' places, and what that gives: its shifts as sums of powers of 1, and two numbers of the
-- same bits are equal.
-- Assumes nothing.
use mathlib.Core.Path.{◌≡◌, refl, sym, ap, ◌∙◌}
use mathlib.Core.List.{List}
use Prim.Native.Nat.{ℕ, zero, suc, ◌+◌, ◌*◌, ◌/◌, ◌%◌, ◌^◌, ◌<◌}
use native.Mathlib.Decide.{dec_lt}
use native.Mathlib.Nat.{mod-lt, div-eq_of_lt, mod-one, mod-eq_of_lt, zero-lt-suc, zero-mul, one-mul}
use native.Mathlib.Numerals.{one-add}
use native.Mathlib.Omega.{arith}
use lib.Pow.{pow_pos, pow-lt, mod-pow-add}
use lib.Bits.{xor_comm, xor_shifted, xor_shr, xor_mod}
use lib.ListN.{length, get_or, get_or-eq_default}
use Rattle.indexed.specs.List.{tabulate}
use Rattle.indexed.proofs.Tabulate.{length_tabulate, get_d_tabulate, tabulate_same}
use Rattle.register.specs.Xor.{◌⊕◌}
use Rattle.register.specs.Bit.{bit, bits_of, of_bits}
use Rattle.register.specs.Shift.{shifts}
use Rattle.register.specs.Sum.{xor_sum}
use Rattle.register.proofs.Xor.{digit_ind}
use Rattle.register.proofs.Bit.{Digits, bit_lt, get_or_bits_of, of_bits_bits_of, bits_of_of_bits}
use Rattle.register.proofs.Shift.{shifts_zero, shifts_add, shifts_of_one}
use Rattle.register.proofs.Sum.{sum_ext, shifts_sum}

-- ---- bits of sums

pub bit_of_xor : (k a b : ℕ) → bit k (a ⊕ b) ≡ bit k a ⊕ bit k b
unfolding bit
bit_of_xor k a b = ap (λ (x : ℕ). x % 2) (xor_shr a b k) ∙ xor_mod (a / 2 ^ k) (b / 2 ^ k) 1

pub bit_of_zero : (k : ℕ) → bit k 0 ≡ 0
unfolding bit
bit_of_zero k = ap (λ (x : ℕ). x % 2) (div-eq_of_lt (pow_pos k))

pub bit_sum : (k n : ℕ) (g : ℕ → ℕ) → bit k (xor_sum n g) ≡ xor_sum n (λ i. bit k (g i))
unfolding xor_sum
bit_sum k zero g = bit_of_zero k
bit_sum k (suc n) g = bit_of_xor k (xor_sum n g) (g n) ∙ ap (λ (x : ℕ). x ⊕ bit k (g n)) (bit_sum k n g)

pub bit_of_bits : (k : ℕ) (l : List ℕ) → k < length l → Digits l → bit k (of_bits l) ≡ get_or l k 0
bit_of_bits k l h d =
    sym (get_or_bits_of (length l) (of_bits l) k h) ∙ ap (λ (m : List ℕ). get_or m k 0) (bits_of_of_bits (length l) l refl d)

-- digits of a rule
module _ (w : ℕ) (d : ℕ → ℕ) (digit : (k : ℕ) → d k < 2) where
  pub digits_tabulate : Digits (tabulate w d)
  digits_tabulate k = by (dec_lt k w)
    where
      by : Dec (k < w) → get_or (tabulate w d) k 0 < 2
      by (yes h) = rw (get_d_tabulate w d k 0 h) (digit k)
      by (no h) = rw (get_or-eq_default (tabulate w d) 0 {n = k} (omega (arith, length_tabulate w d))) (zero-lt-suc 1)

  pub bit_tabulated : (k : ℕ) → k < w → bit k (of_bits (tabulate w d)) ≡ d k
  bit_tabulated k h = bit_of_bits k (tabulate w d) (omega (arith, length_tabulate w d)) digits_tabulate ∙ get_d_tabulate w d k 0 h

pub bits_ext : (w a b : ℕ) → a < 2 ^ w → b < 2 ^ w → ((k : ℕ) → k < w → bit k a ≡ bit k b) → a ≡ b
unfolding bits_of
bits_ext w a b ha hb same =
    sym (of_bits_bits_of w a ha) ∙ ap of_bits (tabulate_same w (λ k. bit k a) (λ k. bit k b) same) ∙ of_bits_bits_of w b hb

-- ---- a number as the sum of its bits' places

pub places : (n a : ℕ) → a % 2 ^ n ≡ xor_sum n (λ j. bit j a * 2 ^ j)
unfolding xor_sum bit
places zero a = mod-one a
places (suc n) a =
    ap (λ (k : ℕ). a % 2 ^ k) (sym (one-add n))
    ∙ mod-pow-add a 1 n
    ∙ sym (xor_shifted (bit n a) n (a % 2 ^ n) (mod-lt a (pow_pos n)))
    ∙ xor_comm (bit n a * 2 ^ n) (a % 2 ^ n)
    ∙ ap (λ (x : ℕ). x ⊕ bit n a * 2 ^ n) (places n a)

-- a digit times a place, shifted
shifts_digit : (w f k d a : ℕ) → d < 2 → shifts w f k (d * a) ≡ d * shifts w f k a
shifts_digit w f k d a h =
    digit_ind (λ (d : ℕ). shifts w f k (d * a) ≡ d * shifts w f k a)
    (ap (shifts w f k) (zero-mul a) ∙ shifts_zero w f k ∙ sym (zero-mul (shifts w f k a)))
    (ap (shifts w f k) (one-mul a) ∙ sym (one-mul (shifts w f k a))) d h

pub digit_place_lt : (w j d : ℕ) → j < w → d < 2 → d * 2 ^ j < 2 ^ w
digit_place_lt w j d hj hd =
    digit_ind (λ (d : ℕ). d * 2 ^ j < 2 ^ w) (omega (arith, pow_pos w)) (omega (arith, pow-lt hj)) d hd

pub shifts_expanded : (w f i a : ℕ) → f < 2 ^ w → a < 2 ^ w → shifts w f i a ≡ xor_sum w (λ j. bit j a * shifts w f (i + j) 1)
shifts_expanded w f i a hf ha =
    ap (shifts w f i) (sym (mod-eq_of_lt ha) ∙ places w a)
    ∙ shifts_sum w f i w (λ j. bit j a * 2 ^ j) hf (λ j h. digit_place_lt w j (bit j a) h (bit_lt j a))
    ∙ sum_ext w (λ j. shifts w f i (bit j a * 2 ^ j)) (λ j. bit j a * shifts w f (i + j) 1)
    (λ j h. shifts_digit w f i (bit j a) (2 ^ j) (bit_lt j a)
    ∙ ap (λ (x : ℕ). bit j a * x)
    (ap (shifts w f i) (sym (shifts_of_one w f j h)) ∙ sym (shifts_add w f i j 1)))
