-- The tracks that fitting relies on, by whether just one track is pointed, by the drive only. A track that is none of them has a legal
-- word; where nothing is pointed there are none; and there are three or more exactly where three or more are pointed.
-- Assumes nothing.
use mathlib.Core.Path.{◌≡◌, refl, sym, ap, subst, ◌∙◌}
use mathlib.Core.Bool.{Bool, true, false}
use mathlib.Core.List.{List}
use mathlib.Core.Logic.{◌⊎◌, inl, inr}
use Prim.Native.Nat.{ℕ, ◌<◌, ◌≤◌, ◌^◌}
use native.Mathlib.Omega.{arith}
use borrow.Author.Tests.{eqb-true}
use lib.Bits.{bit_or}
use lib.Dec.{eqb}
use lib.ListN.{length, get_or}
use Rattle.indexed.specs.List.{tabulate, tabulate_from}
use Rattle.indexed.proofs.Tabulate.{tabulate_same}
use Rattle.register.specs.Bit.{bit, of_bits}
use Rattle.register.proofs.Bit.{bit_lt}
use Rattle.register.proofs.Expand.{bit_of_zero}
use Rattle.register.proofs.Xor.{digit}
use Rattle.register.proofs.Ones.{bit_of_or, bit_of_tabulate, tabulated_lt}
use Rattle.group_code.specs.Word.{illegality}
use Rattle.group_code.proofs.Words.{illegality_lt}
use Rattle.rectangular.specs.Correction.{pointed_tracks}
use Rattle.rectangular.specs.Relied.{one_pointer, relied_on}
use Rattle.rectangular.proofs.Pointed.{none_pointed}
use Rattle.rectangular.proofs.Relied.{relied_none, one_told, relied_one, relied_others}
use Rattle.record6250.specs.Group.{illegal_map, pointed, relied}

-- of two digits, if none is 1 the second is 0
second_zero : (a b : ℕ) → (a ≡ 0) ⊎ (a ≡ 1) → (b ≡ 0) ⊎ (b ≡ 1) → bit_or a b ≡ 0 → b ≡ 0
second_zero a b p (inl q) e = q
second_zero a b (inl p) (inr q) e = ap (λ (x : ℕ). bit_or x b) (sym p) ∙ e
second_zero a b (inr p) (inr q) e =
    let z : bit_or 1 1 ≡ 0 = subst (λ (y : ℕ). bit_or 1 y ≡ 0) q (subst (λ (x : ℕ). bit_or x b ≡ 0) p e) in absurd (omega arith)

-- ---- the map of illegal words

pub illegal_lt : (words : List ℕ) → illegal_map words < 2 ^ 9
unfolding illegal_map
illegal_lt words = tabulated_lt 9 _ (λ k h. illegality_lt (get_or words k 0))

pub illegal_bit : (words : List ℕ) (k : ℕ) → k < 9 → bit k (illegal_map words) ≡ illegality (get_or words k 0)
unfolding illegal_map
illegal_bit words k h = bit_of_tabulate 9 (λ k. illegality (get_or words k 0)) (λ k h. illegality_lt (get_or words k 0)) k h

pub none_illegal : (words : List ℕ) → ((k : ℕ) → k < 9 → illegality (get_or words k 0) ≡ 0) → illegal_map words ≡ 0
unfolding illegal_map of_bits tabulate tabulate_from
none_illegal words legal = ap of_bits (tabulate_same 9 (λ k. illegality (get_or words k 0)) (λ k. 0) legal)

-- ---- the tracks relied on

-- no word is illegal, and no track is pointed by the drive
pub none_relied : (words : List ℕ) → illegal_map words ≡ 0 → relied words 0 ≡ 0
unfolding relied pointed
none_relied words legal = ap (λ (i : ℕ). relied_on (eqb i 0) (bit_or 0 i)) legal ∙ relied_none true

module _ (words : List ℕ) (pointers : ℕ) where
  -- just one track is pointed, by the drive only, its word being legal
  abbrev pub is_one_pointer : Bool
  is_one_pointer = one_pointer (eqb (illegal_map words) 0) (pointed words pointers)

  pub one_legal : is_one_pointer ≡ true → illegal_map words ≡ 0
  one_legal e = eqb-true _ 0 (one_told _ _ e).0

  pub one_pointed : is_one_pointer ≡ true → length (pointed_tracks 9 (pointed words pointers)) ≡ 1
  one_pointed e = (one_told _ _ e).1

  pub one_relied : is_one_pointer ≡ true → relied words pointers ≡ 0
  unfolding relied
  one_relied e = relied_one _ (pointed words pointers) e

  pub others_relied : is_one_pointer ≡ false → relied words pointers ≡ pointed words pointers
  unfolding relied
  others_relied e = relied_others _ (pointed words pointers) e

  -- a property of the tracks relied on, by the two cases
  relied_by : (P : ℕ → Type 0) → (is_one_pointer ≡ true → P 0) → (is_one_pointer ≡ false → P (pointed words pointers)) → P (relied words pointers)
  relied_by P one other = by is_one_pointer refl
    where
      by : (b : Bool) → is_one_pointer ≡ b → P (relied words pointers)
      by true e = subst P (sym (one_relied e)) (one e)
      by false e = subst P (sym (others_relied e)) (other e)

  pub unrelied_legal : (k : ℕ) → k < 9 → bit k (relied words pointers) ≡ 0 → illegality (get_or words k 0) ≡ 0
  unfolding pointed
  unrelied_legal k h =
      relied_by (λ (m : ℕ). bit k m ≡ 0 → illegality (get_or words k 0) ≡ 0)
      (λ e z. sym (illegal_bit words k h) ∙ ap (bit k) (one_legal e) ∙ bit_of_zero k)
      (λ e z. sym (illegal_bit words k h)
      ∙ second_zero (bit k pointers) (bit k (illegal_map words)) (digit (bit k pointers) (bit_lt k pointers))
      (digit (bit k (illegal_map words)) (bit_lt k (illegal_map words))) (sym (bit_of_or k pointers (illegal_map words)) ∙ z))

  -- how many there are
  abbrev many : ℕ → ℕ
  many m = length (pointed_tracks 9 m)

  pub relied_many : 3 ≤ many (relied words pointers) → 3 ≤ many (pointed words pointers)
  relied_many =
      relied_by (λ (m : ℕ). 3 ≤ many m → 3 ≤ many (pointed words pointers)) (λ e h. absurd (omega (arith, ap length (none_pointed 9)))) (λ e h. h)

  pub pointed_many : 3 ≤ many (pointed words pointers) → 3 ≤ many (relied words pointers)
  pointed_many h = relied_by (λ (m : ℕ). 3 ≤ many m) (λ e. absurd (omega (arith, one_pointed e))) (λ e. h)

  pub pointed_few : many (relied words pointers) ≤ 1 → many (pointed words pointers) ≤ 1
  pointed_few =
      relied_by (λ (m : ℕ). many m ≤ 1 → many (pointed words pointers) ≤ 1) (λ e h. omega (arith, one_pointed e)) (λ e h. h)
