-- Two characters that differ in one track at most: the one is the other with that bit changed, if their parities differ; and what such
-- a change does to the bits.
-- Assumes nothing.
use mathlib.Core.Path.{◌≡◌, sym, ap, ◌∙◌}
use mathlib.Core.Bool.{Bool, cond}
use Prim.Native.Nat.{ℕ, ◌*◌, ◌^◌, ◌<◌}
use native.Mathlib.Nat.{mod-eq_of_lt, zero-mul, mul-one}
use native.Mathlib.Omega.{arith}
use borrow.Author.Tests.{eq-eqb, ne_eqb}
use lib.Bits.{xor_lt, xor_self, xor_zero_r}
use lib.Dec.{eqb}
use Rattle.indexed.proofs.Test.{equal₂, equal₃}
use Rattle.register.specs.Bit.{bit}
use Rattle.register.specs.Parity.{parity}
use Rattle.register.specs.Xor.{◌⊕◌}
use Rattle.register.proofs.Bit.{bit_lt}
use Rattle.register.proofs.Expand.{bit_of_xor, places}
use Rattle.register.proofs.Parity.{parity_xor, parity_place}
use Rattle.register.proofs.Sum.{sum_one}
use Rattle.register.proofs.Xor.{digit_ind, xor_cancel}
use Rattle.cyclic.specs.Constants.{tracks}

-- ---- a digit at a place, by computing all of them

bit_place : (d j : ℕ) → d < 2 → j < tracks → bit j (d * 2 ^ j) ≡ d
unfolding bit
bit_place = equal₂ 2 tracks (λ d j. bit j (d * 2 ^ j)) (λ d j. d) tt

bit_elsewhere : (d i j : ℕ) → d < 2 → i < tracks → j < tracks → cond (eqb i j) 0 (bit i (d * 2 ^ j)) ≡ 0
unfolding bit
bit_elsewhere = equal₃ 2 tracks tracks (λ d i j. cond (eqb i j) 0 (bit i (d * 2 ^ j))) (λ d i j. 0) tt

-- ---- a character that is changed in track j, if the digit d is 1

module _ (a d j : ℕ) (hd : d < 2) (hj : j < tracks) where
  pub changed_bit : bit j (a ⊕ d * 2 ^ j) ≡ bit j a ⊕ d
  changed_bit = bit_of_xor j a (d * 2 ^ j) ∙ ap (λ (x : ℕ). bit j a ⊕ x) (bit_place d j hd hj)

  pub other_bit : (i : ℕ) → i < tracks → (i ≡ j → ⊥) → bit i (a ⊕ d * 2 ^ j) ≡ bit i a
  other_bit i hi apart =
      let none : bit i (d * 2 ^ j) ≡ 0 =
      sym (ap (λ (b : Bool). cond b 0 (bit i (d * 2 ^ j))) (ne_eqb i j apart)) ∙ bit_elsewhere d i j hd hi hj in
      bit_of_xor i a (d * 2 ^ j) ∙ ap (λ (x : ℕ). bit i a ⊕ x) none ∙ xor_zero_r (bit i a)

-- a number differs from itself with something added to it, and not with nothing
pub change_counted : (a d m : ℕ) → d < 2 → 0 < m → cond (eqb a (a ⊕ d * m)) 0 1 ≡ d
change_counted a d m hd hm =
    digit_ind (λ (d : ℕ). cond (eqb a (a ⊕ d * m)) 0 1 ≡ d)
    (ap (λ (b : Bool). cond b 0 1) (eq-eqb _ _ (sym (ap (λ (x : ℕ). a ⊕ x) (zero-mul m) ∙ xor_zero_r a))))
    (ap (λ (b : Bool). cond b 0 1)
    (ne_eqb a (a ⊕ 1 * m) (λ q. let z : 0 ≡ 1 * m = sym (xor_self a) ∙ ap (λ (x : ℕ). a ⊕ x) q ∙ xor_cancel a (1 * m) in omega arith))) d hd

pub change_counted_bit : (a d j : ℕ) → d < 2 → j < tracks → cond (eqb (bit j a) (bit j (a ⊕ d * 2 ^ j))) 0 1 ≡ d
change_counted_bit a d j hd hj =
    ap (λ (x : ℕ). cond (eqb (bit j a) x) 0 1) (changed_bit a d j hd hj ∙ ap (λ (x : ℕ). bit j a ⊕ x) (sym (mul-one d)))
    ∙ change_counted (bit j a) d 1 hd (omega arith)

-- ---- two characters that agree outside track j

module _ (a b j : ℕ) (ha : a < 512) (hb : b < 512) (hj : j < tracks) (agree : (i : ℕ) → i < tracks → (i ≡ j → ⊥) → bit i a ≡ bit i b) where
  -- their sum has no bit but that of the track
  sum_is : a ⊕ b ≡ bit j (a ⊕ b) * 2 ^ j
  sum_is =
      sym (mod-eq_of_lt (xor_lt 9 a b ha hb))
      ∙ places 9 (a ⊕ b)
      ∙ sum_one 9 (λ i. bit i (a ⊕ b) * 2 ^ i) j hj
      (λ i hi apart. ap (λ (x : ℕ). x * 2 ^ i) (bit_of_xor i a b ∙ ap (λ (x : ℕ). x ⊕ bit i b) (agree i hi apart) ∙ xor_self (bit i b))
      ∙ zero-mul (2 ^ i))

  -- so the parities tell that bit
  bit_is : bit j (a ⊕ b) ≡ parity a ⊕ parity b
  bit_is =
      sym (parity_place (bit j (a ⊕ b)) j (bit_lt j (a ⊕ b)))
      ∙ sym (ap parity sum_is)
      ∙ parity_xor a b

  pub one_apart : b ≡ a ⊕ (parity a ⊕ parity b) * 2 ^ j
  one_apart = sym (xor_cancel a b) ∙ ap (λ (x : ℕ). a ⊕ x) (sum_is ∙ ap (λ (d : ℕ). d * 2 ^ j) bit_is)
