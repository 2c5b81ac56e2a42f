-- The padding of a record's body: the body keeps the rule, the data are what stands before its padding, and bytes that
-- keep the rule are the body of what stands before theirs.
-- Assumes nothing.
use mathlib.Core.Path.{◌≡◌, refl, sym, ap, ap₂, subst, ◌∙◌}
use mathlib.Core.Bool.{Bool, true, false, ◌&&◌}
use mathlib.Core.List.{List, [], ◌∷◌, ◌++◌, append_assoc}
use Prim.Native.Nat.{ℕ, zero, suc, ◌+◌, ◌-◌, ◌*◌, ◌<◌, ◌≤◌}
use native.Mathlib.Nat.{zero-lt-suc, sub-zero}
use native.Mathlib.Omega.{arith}
use borrow.Author.Tests.{le-leb, lt-leb, eq-eqb}
use lib.Dec.{T, eqb, leb, leb→le, eqb→eq}
use lib.ListN.{length, get_or, take, drop, replicate, length-append, length-replicate, get_or-replicate, drop_of_length-le, take-append-drop, get_or-append}
use lib.Seq.{length-take-le, take_at, get_or_at, get_or-append-add, drop-cons}
use Rattle.indexed.specs.Test.{all_below}
use Rattle.indexed.proofs.Test.{both_left, both_right, tested, all_true, all_false}
use Rattle.record6250.specs.Record.{padding, body, groups_for}
use Rattle.record6250.specs.Read.{last_byte, padding_suits, unpadded}

pub length_body : (bytes : List ℕ) → length (body bytes) ≡ 7 * groups_for (length bytes)
unfolding body groups_for padding
length_body bytes = simp (length-append, length-replicate) (omega arith)

-- ---- the body of given bytes

module _ (bytes : List ℕ) where
  count : ℕ
  count = padding (length bytes)

  count_le : count ≤ 6
  unfolding count padding
  count_le = omega arith

  front : List ℕ
  front = bytes ++ replicate count 0

  length_front : length front ≡ length bytes + count
  unfolding front
  length_front = simp (length-append, length-replicate)

  -- the body is as long as the data, the zeros and the one byte
  long : length (body bytes) ≡ length bytes + count + 1
  unfolding body count
  long = simp (length-append, length-replicate)

  last_is : last_byte (body bytes) ≡ count
  unfolding last_byte body front count
  last_is = get_or_at front count [] 0 (length (body bytes) - 1) (omega (arith, length_front, long))

  zero_at : (k : ℕ) → k < count → get_or (body bytes) (length (body bytes) - 2 - k) 0 ≡ 0
  unfolding body front count
  zero_at k h =
      let place : length (body bytes) - 2 - k ≡ length bytes + (count - 1 - k) = omega (arith, long) in
      ap (λ (j : ℕ). get_or (body bytes) j 0) place
      ∙ get_or-append front (count ∷ []) 0 (length bytes + (count - 1 - k)) (omega (arith, length_front))
      ∙ get_or-append-add bytes (replicate count 0) (count - 1 - k) 0
      ∙ get_or-replicate count (count - 1 - k) 0 0 (omega arith)

  pub body_suits : padding_suits (body bytes) ≡ true
  unfolding padding_suits
  body_suits =
      ap₂ ◌&&◌ (le-leb (last_byte (body bytes)) 6 (omega (arith, last_is, count_le)))
      (all_true (last_byte (body bytes)) _
      (λ k h. eq-eqb (get_or (body bytes) (length (body bytes) - 2 - k) 0) 0 (zero_at k (omega (arith, last_is)))))

  pub unpadded_body : unpadded (body bytes) ≡ bytes
  unfolding unpadded body count
  unpadded_body =
      ap (take (length (body bytes) - 1 - last_byte (body bytes))) (append_assoc bytes (replicate count 0) (count ∷ []))
      ∙ take_at bytes (replicate count 0 ++ (count ∷ [])) (length (body bytes) - 1 - last_byte (body bytes))
      (omega (arith, long, last_is))

-- ---- the body's bytes

abbrev Bytes : List ℕ → Type 0
Bytes l = (k : ℕ) → get_or l k 0 < 256

bytes_append : (a b : List ℕ) → Bytes a → Bytes b → Bytes (a ++ b)
bytes_append [] b ha hb k = hb k
bytes_append (x ∷ xs) b ha hb zero = ha 0
bytes_append (x ∷ xs) b ha hb (suc k) = bytes_append xs b (λ k. ha (suc k)) hb k

bytes_zeros : (n : ℕ) → Bytes (replicate n 0)
bytes_zeros zero k = zero-lt-suc 255
bytes_zeros (suc n) zero = zero-lt-suc 255
bytes_zeros (suc n) (suc k) = bytes_zeros n k

bytes_one : (x : ℕ) → x < 256 → Bytes (x ∷ [])
bytes_one x h zero = h
bytes_one x h (suc k) = zero-lt-suc 255

pub body_below : (bytes : List ℕ) → ((k : ℕ) → get_or bytes k 0 < 256) → (k : ℕ) → get_or (body bytes) k 0 < 256
unfolding body padding
body_below bytes h =
    bytes_append (bytes ++ replicate (padding (length bytes)) 0) (padding (length bytes) ∷ [])
    (bytes_append bytes (replicate (padding (length bytes)) 0) h (bytes_zeros (padding (length bytes))))
    (bytes_one (padding (length bytes)) (omega arith))

-- ---- bytes that keep the rule

-- the byte that stands k before the one before the last is zero
abbrev is_zero : List ℕ → ℕ → Bool
is_zero l k = eqb (get_or l (length l - 2 - k) 0) 0

module _ (l : List ℕ) (suits : padding_suits l ≡ true) where
  passed : T (leb (last_byte l) 6 && all_below (last_byte l) (is_zero l))
  unfolding padding_suits
  passed = subst T (sym suits) tt

  pub last_le : last_byte l ≤ 6
  last_le = leb→le (last_byte l) 6 (both_left (leb (last_byte l) 6) (all_below (last_byte l) (is_zero l)) passed)

  zero_before : (k : ℕ) → k < last_byte l → get_or l (length l - 2 - k) 0 ≡ 0
  zero_before k h =
      eqb→eq (get_or l (length l - 2 - k) 0) 0
      (tested (last_byte l) (is_zero l) (both_right (leb (last_byte l) 6) (all_below (last_byte l) (is_zero l)) passed) k h)

  -- the last byte, and as many zeros before it as it says
  end_is : 7 ≤ length l → (j : ℕ) → j ≤ last_byte l → drop (length l - 1 - j) l ≡ replicate j 0 ++ (last_byte l ∷ [])
  unfolding last_byte
  end_is h zero b =
      ap (λ (k : ℕ). drop k l) (sub-zero (length l - 1))
      ∙ drop-cons l (length l - 1) 0 (omega arith)
      ∙ ap (λ (r : List ℕ). last_byte l ∷ r) (drop_of_length-le l {i = suc (length l - 1)} (omega arith))
  end_is h (suc j) b =
      let before : length l - 1 - suc j ≡ length l - 2 - j = omega arith in
      let next : suc (length l - 2 - j) ≡ length l - 1 - j = omega (arith, last_le) in
      ap (λ (k : ℕ). drop k l) before
      ∙ drop-cons l (length l - 2 - j) 0 (omega arith)
      ∙ ap₂ (λ (x : ℕ) (k : ℕ). x ∷ drop k l) (zero_before j b) next
      ∙ ap (λ (r : List ℕ). 0 ∷ r) (end_is h j (omega arith))

module _ (l : List ℕ) (n : ℕ) (some : 0 < n) (whole : length l ≡ 7 * n) (suits : padding_suits l ≡ true) where
  pub length_unpadded : length (unpadded l) ≡ 7 * n - 1 - last_byte l
  unfolding unpadded
  length_unpadded =
      length-take-le (length l - 1 - last_byte l) l (omega arith) ∙ ap (λ (k : ℕ). k - 1 - last_byte l) whole

  pub groups_of_unpadded : groups_for (length (unpadded l)) ≡ n
  unfolding groups_for
  groups_of_unpadded = omega (arith, length_unpadded, last_le l suits)

  padding_is : padding (length (unpadded l)) ≡ last_byte l
  unfolding padding
  padding_is = omega (arith, length_unpadded, last_le l suits)

  pub body_of_unpadded : body (unpadded l) ≡ l
  unfolding body unpadded
  body_of_unpadded =
      append_assoc (unpadded l) (replicate (padding (length (unpadded l))) 0) (padding (length (unpadded l)) ∷ [])
      ∙ ap (λ (p : ℕ). unpadded l ++ (replicate p 0 ++ (p ∷ []))) padding_is
      ∙ ap (λ (r : List ℕ). unpadded l ++ r) (sym (end_is l suits (omega arith) (last_byte l) (omega arith)))
      ∙ take-append-drop (length l - 1 - last_byte l) l

-- ---- the rule, by what a search has seen

module _ (bytes : List ℕ) where
  pub last_above : 6 < last_byte bytes → padding_suits bytes ≡ false
  unfolding padding_suits
  last_above h =
      ap (λ (b : Bool). b && all_below (last_byte bytes) (λ k. eqb (get_or bytes (length bytes - 2 - k) 0) 0)) (lt-leb (last_byte bytes) 6 h)

  pub not_zero : (k : ℕ) → k < last_byte bytes → eqb (get_or bytes (length bytes - 2 - k) 0) 0 ≡ false → padding_suits bytes ≡ false
  unfolding padding_suits
  not_zero k h e =
      ap (λ (b : Bool). leb (last_byte bytes) 6 && b) (all_false (last_byte bytes) _ k h e) ∙ and_false (leb (last_byte bytes) 6)
    where
      and_false : (t : Bool) → t && false ≡ false
      and_false true = refl
      and_false false = refl

  pub all_zero : last_byte bytes ≤ 6 → ((k : ℕ) → k < last_byte bytes → eqb (get_or bytes (length bytes - 2 - k) 0) 0 ≡ true) → padding_suits bytes ≡ true
  unfolding padding_suits
  all_zero h e = ap₂ ◌&&◌ (le-leb (last_byte bytes) 6 h) (all_true (last_byte bytes) _ e)
