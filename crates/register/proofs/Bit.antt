-- A number and the list of its bits: each gives the other back.
-- Assumes nothing.
use mathlib.Core.Path.{◌≡◌, refl, sym, ap, ap₂, ◌∙◌}
use mathlib.Core.List.{List, [], ◌∷◌}
use Prim.Native.Nat.{ℕ, zero, suc, ◌+◌, ◌-◌, ◌*◌, ◌/◌, ◌%◌, ◌^◌, ◌<◌, ◌≤◌}
use native.Mathlib.Nat.{le_refl, zero-lt-suc, div-one, suc_inj, suc-ne-zero}
use native.Mathlib.Decide.{dec_lt}
use native.Mathlib.Numerals.{one-add}
use native.Mathlib.Omega.{arith}
use lib.ListN.{length, get_or, drop, get_or-eq_default}
use lib.Seq.{drop-cons}
use lib.Pow.{shr-shr, field, mod-mod-pow}
use lib.Arith.{lt-one}
use Rattle.indexed.specs.List.{tabulate, tabulate_from}
use Rattle.indexed.proofs.Tabulate.{length_tabulate, get_d_tabulate, tabulate_suc, tabulate_same}
use Rattle.register.specs.Bit.{bit, bits_of, of_bits}
use Rattle.register.proofs.Xor.{odd_lt}

-- every element is 0 or 1
abbrev pub Digits : List ℕ → Type 0
Digits l = (k : ℕ) → get_or l k 0 < 2

pub bit_lt : (k a : ℕ) → bit k a < 2
unfolding bit
bit_lt k a = odd_lt (a / 2 ^ k)

pub bit_zero : (a : ℕ) → bit 0 a ≡ a % 2
unfolding bit
bit_zero a = ap (λ (x : ℕ). x % 2) (div-one a)

pub bit_suc : (k a : ℕ) → bit (suc k) a ≡ bit k (a / 2)
unfolding bit
bit_suc k a = ap (λ (x : ℕ). x % 2) (ap (λ (j : ℕ). a / 2 ^ j) (sym (one-add k)) ∙ sym (shr-shr a 1 k))

pub length_bits_of : (w a : ℕ) → length (bits_of w a) ≡ w
unfolding bits_of
length_bits_of w a = length_tabulate w _

pub get_or_bits_of : (w a k : ℕ) → k < w → get_or (bits_of w a) k 0 ≡ bit k a
unfolding bits_of
get_or_bits_of w a k h = get_d_tabulate w _ k 0 h

pub digits_bits_of : (w a : ℕ) → Digits (bits_of w a)
digits_bits_of w a k = by (dec_lt k w)
  where
    by : Dec (k < w) → get_or (bits_of w a) k 0 < 2
    by (yes h) = rw (get_or_bits_of w a k h) (bit_lt k a)
    by (no h) = rw (get_or-eq_default (bits_of w a) 0 {n = k} (omega (arith, length_bits_of w a))) (zero-lt-suc 1)

-- the lowest bit, and the bits of the half
pub bits_of_suc : (w a : ℕ) → bits_of (suc w) a ≡ a % 2 ∷ bits_of w (a / 2)
unfolding bits_of
bits_of_suc w a =
    tabulate_suc w (λ k. bit k a)
    ∙ ap₂ (λ (x : ℕ) (l : List ℕ). x ∷ l) (bit_zero a) (tabulate_same w _ _ (λ k h. bit_suc k a))

bits_of_zero : (a : ℕ) → bits_of 0 a ≡ []
unfolding bits_of tabulate tabulate_from
bits_of_zero a = refl

pub of_bits_bits_of : (w a : ℕ) → a < 2 ^ w → of_bits (bits_of w a) ≡ a
unfolding of_bits
of_bits_bits_of zero a h = ap of_bits (bits_of_zero a) ∙ sym (lt-one h)
of_bits_bits_of (suc w) a h =
    ap of_bits (bits_of_suc w a)
    ∙ ap (λ (x : ℕ). a % 2 + 2 * x) (of_bits_bits_of w (a / 2) (omega arith))
    ∙ omega arith

pub of_bits_lt : (l : List ℕ) → Digits l → of_bits l < 2 ^ length l
unfolding of_bits
of_bits_lt [] d = zero-lt-suc 0
of_bits_lt (b ∷ bs) d =
    let power : 2 ^ suc (length bs) ≡ 2 * 2 ^ length bs = omega arith in
    omega (arith, d 0, of_bits_lt bs (λ k. d (suc k)))

pub bits_of_of_bits : (w : ℕ) (l : List ℕ) → length l ≡ w → Digits l → bits_of w (of_bits l) ≡ l
unfolding of_bits
bits_of_of_bits zero [] e d = bits_of_zero 0
bits_of_of_bits zero (b ∷ bs) e d = absurd (suc-ne-zero _ e)
bits_of_of_bits (suc w) [] e d = absurd (suc-ne-zero _ (sym e))
bits_of_of_bits (suc w) (b ∷ bs) e d =
    let low : (b + 2 * of_bits bs) % 2 ≡ b = omega (arith, d 0) in
    let high : (b + 2 * of_bits bs) / 2 ≡ of_bits bs = omega (arith, d 0) in
    bits_of_suc w (b + 2 * of_bits bs)
    ∙ ap₂ (λ (x : ℕ) (l : List ℕ). x ∷ l) low (ap (bits_of w) high ∙ bits_of_of_bits w bs (suc_inj e) (λ k. d (suc k)))

-- one bit more in front, as a loop from the highest bit down gathers them
pub of_bits_drop : (l : List ℕ) (k : ℕ) → k < length l → of_bits (drop k l) ≡ get_or l k 0 + 2 * of_bits (drop (suc k) l)
unfolding of_bits
of_bits_drop l k h = ap of_bits (drop-cons l k 0 h)

pub of_bits_drop_le : (l : List ℕ) (k : ℕ) → of_bits (drop k l) ≤ of_bits l
unfolding of_bits
of_bits_drop_le l zero = le_refl (of_bits l)
of_bits_drop_le [] (suc k) = le_refl 0
of_bits_drop_le (b ∷ bs) (suc k) = omega (arith, of_bits_drop_le bs k)

-- ---- bits of a part: of a number shifted down, and of its lowest bits

pub bit_shr : (r s a : ℕ) → bit r (a / 2 ^ s) ≡ bit (s + r) a
unfolding bit
bit_shr r s a = ap (λ (x : ℕ). x % 2) (shr-shr a s r)

pub bit_mod : (r w a : ℕ) → r < w → bit r (a % 2 ^ w) ≡ bit r a
unfolding bit
bit_mod r w a h =
    let above : w ≡ w - r + r = omega arith in
    let one : w - r ≡ w - r - 1 + 1 = omega arith in
    ap (λ (n : ℕ). a % 2 ^ n / 2 ^ r % 2) above
    ∙ ap (λ (x : ℕ). x % 2) (field a (w - r) r)
    ∙ ap (λ (n : ℕ). a / 2 ^ r % 2 ^ n % 2) one
    ∙ mod-mod-pow (a / 2 ^ r) (w - r - 1) 1
