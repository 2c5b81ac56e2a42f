-- The written 800 record: its characters, their parities, its two sums, and that these make a written record.
-- Assumes nothing.
use mathlib.Core.Path.{◌≡◌, refl, sym, ap, ap₂, ◌∙◌}
use mathlib.Core.Bool.{Bool, cond}
use mathlib.Core.List.{List, [], ◌∷◌, ◌++◌, map}
use mathlib.Core.Logic.{◌⊎◌, inl, inr}
use Prim.Native.Nat.{ℕ, suc, ◌+◌, ◌%◌, ◌<◌}
use native.Mathlib.Nat.{zero-lt-suc}
use native.Mathlib.Decide.{dec_lt, ℕ_discrete}
use native.Mathlib.Numerals.{add-one}
use native.Mathlib.Omega.{arith}
use borrow.Author.Tests.{eq-eqb, ne_eqb}
use lib.Bits.{xor_lt, xor_self}
use lib.Dec.{eqb, ltb, ltb→lt, lit<}
use lib.ListN.{length, get_or, length-append, length-map, get_or-append, get_or-eq_default}
use lib.Seq.{ext_get_or, get_or_at}
use Rattle.indexed.specs.List.{tabulate}
use Rattle.indexed.proofs.Map.{get_d_map}
use Rattle.indexed.proofs.Tabulate.{length_tabulate, get_d_tabulate}
use Rattle.indexed.proofs.Test.{tested, equal}
use Rattle.register.specs.Held.{held}
use Rattle.register.specs.Parity.{parity, parity_digits}
use Rattle.register.specs.Shift.{shifts}
use Rattle.register.specs.Sum.{xor_sum}
use Rattle.register.specs.Xor.{◌⊕◌}
use Rattle.register.proofs.Held.{held_ext, held_last, held_lt, held_parity}
use Rattle.register.proofs.Parity.{parity_xor, odd_more, sum_odd}
use Rattle.register.proofs.Sum.{sum_ext, sum_lt, sum_last}
use Rattle.register.proofs.Xor.{xor_cancel, xor_zero→eq}
use Rattle.cyclic.specs.Constants.{feedback, offset, checks}
use Rattle.cyclic.proofs.Constants.{feedback_odd, offset_odd}
use Rattle.record800.specs.Read.{expected_parity}
use Rattle.record800.specs.Record.{character_of, check_sum, check_character, longitudinal, with_check, written_record}

-- ---- one character, computed for every byte and every character

pub character_lt : (byte : ℕ) → byte < 256 → character_of byte < 512
unfolding character_of parity parity_digits
character_lt byte h = ltb→lt _ 512 (tested 256 (λ b. ltb (character_of b) 512) tt byte h)

pub character_byte : (byte : ℕ) → byte < 256 → character_of byte % 256 ≡ byte
unfolding character_of parity parity_digits
character_byte = equal 256 (λ b. character_of b % 256) (λ b. b) tt

pub character_parity : (byte : ℕ) → byte < 256 → parity (character_of byte) ≡ 1
unfolding character_of parity parity_digits
character_parity = equal 256 (λ b. parity (character_of b)) (λ b. 1) tt

-- a character is of even parity, or the character of its byte
pub odd_character : (c : ℕ) → c < 512 → parity c ≡ 1 → character_of (c % 256) ≡ c
unfolding character_of parity parity_digits
odd_character c h e =
    sym (ap (λ (p : ℕ). choose p c (character_of (c % 256))) e)
    ∙ equal 512 (λ c. choose (parity c) c (character_of (c % 256))) (λ c. c) tt c h
  where
    choose : ℕ → ℕ → ℕ → ℕ
    choose p c d = cond (eqb p 1) d c

-- ---- sums with their last term apart

sum_one_more : (n : ℕ) (g : ℕ → ℕ) → xor_sum (n + 1) g ≡ xor_sum n g ⊕ g n
sum_one_more n g = ap (λ (m : ℕ). xor_sum m g) (add-one n) ∙ sum_last n g

sum_two_more : (n : ℕ) (g : ℕ → ℕ) → xor_sum (n + 2) g ≡ xor_sum (n + 1) g ⊕ g (n + 1)
sum_two_more n g =
    let next : n + 2 ≡ suc (n + 1) = omega arith in
    ap (λ (m : ℕ). xor_sum m g) next ∙ sum_last (n + 1) g

check_sum_last : (n : ℕ) (c : ℕ → ℕ) → check_sum (n + 1) c ≡ held 9 feedback 1 n c ⊕ c n
unfolding shifts
check_sum_last n c = ap (λ (m : ℕ). check_sum m c) (add-one n) ∙ held_last 9 feedback 0 n c

-- ---- the record by its characters

length_with_check : (bytes : List ℕ) → length (with_check (map character_of bytes)) ≡ length bytes + 1
unfolding with_check
length_with_check bytes =
    length-append (map character_of bytes) _ ∙ ap (λ (n : ℕ). n + 1) (length-map bytes character_of)

pub length_record : (bytes : List ℕ) → length (written_record bytes) ≡ length bytes + checks
unfolding written_record
length_record bytes =
    let next : length bytes + 1 + 1 ≡ length bytes + checks = omega arith in
    length-append (with_check (map character_of bytes)) _ ∙ ap (λ (n : ℕ). n + 1) (length_with_check bytes) ∙ next

-- all but the last
record_front : (bytes : List ℕ) (k : ℕ) → k < length bytes + 1
    → get_or (written_record bytes) k 0 ≡ get_or (with_check (map character_of bytes)) k 0
unfolding written_record
record_front bytes k h = get_or-append (with_check (map character_of bytes)) _ 0 k (omega (arith, length_with_check bytes))

record_character : (bytes : List ℕ) (k : ℕ) → k < length bytes → get_or (written_record bytes) k 0 ≡ get_or (map character_of bytes) k 0
unfolding with_check
record_character bytes k h =
    record_front bytes k (omega arith) ∙ get_or-append (map character_of bytes) _ 0 k (omega (arith, length-map bytes character_of))

pub record_data : (bytes : List ℕ) (k : ℕ) → k < length bytes → get_or (written_record bytes) k 0 ≡ character_of (get_or bytes k 0)
record_data bytes k h = record_character bytes k h ∙ get_d_map character_of bytes k 0 0 h

pub record_check : (bytes : List ℕ) → get_or (written_record bytes) (length bytes) 0 ≡ check_character (map character_of bytes)
unfolding with_check
record_check bytes =
    record_front bytes (length bytes) (omega arith)
    ∙ get_or_at (map character_of bytes) (check_character (map character_of bytes)) [] 0 (length bytes) (length-map bytes character_of)

pub record_longitudinal : (bytes : List ℕ)
    → get_or (written_record bytes) (length bytes + 1) 0 ≡ longitudinal (with_check (map character_of bytes))
unfolding written_record
record_longitudinal bytes =
    get_or_at (with_check (map character_of bytes)) (longitudinal (with_check (map character_of bytes))) [] 0 (length bytes + 1)
    (length_with_check bytes)

-- the exclusive-or with one character more
pub longitudinal_more : (l : List ℕ) (x : ℕ) → longitudinal (l ++ (x ∷ [])) ≡ longitudinal l ⊕ x
unfolding longitudinal
longitudinal_more l x =
    ap (λ (n : ℕ). xor_sum n (λ k. get_or (l ++ (x ∷ [])) k 0)) (length-append l (x ∷ []))
    ∙ sum_one_more (length l) _
    ∙ ap₂ ◌⊕◌ (sum_ext (length l) _ _ (λ k h. get_or-append l (x ∷ []) 0 k h)) (get_or_at l x [] 0 (length l) refl)

-- ---- its last two characters as sums of those before

check_is : (bytes : List ℕ)
    → check_character (map character_of bytes) ≡ held 9 feedback 1 (length bytes) (λ k. get_or (written_record bytes) k 0) ⊕ offset
unfolding check_character
check_is bytes =
    ap (λ (s : ℕ). s ⊕ offset)
    (ap (λ (n : ℕ). held 9 feedback 1 n (λ k. get_or (map character_of bytes) k 0)) (length-map bytes character_of)
    ∙ held_ext 9 feedback 1 (length bytes) _ _ (λ k h. sym (record_character bytes k h)))

longitudinal_is : (bytes : List ℕ)
    → longitudinal (with_check (map character_of bytes)) ≡ xor_sum (length bytes + 1) (λ k. get_or (written_record bytes) k 0)
unfolding longitudinal
longitudinal_is bytes =
    ap (λ (n : ℕ). xor_sum n (λ k. get_or (with_check (map character_of bytes)) k 0)) (length_with_check bytes)
    ∙ sum_ext (length bytes + 1) _ _ (λ k h. sym (record_front bytes k h))

pub record_check_sum : (bytes : List ℕ) → check_sum (length bytes + 1) (λ k. get_or (written_record bytes) k 0) ≡ offset
record_check_sum bytes =
    check_sum_last (length bytes) _
    ∙ ap (λ (x : ℕ). held 9 feedback 1 (length bytes) (λ k. get_or (written_record bytes) k 0) ⊕ x) (record_check bytes ∙ check_is bytes)
    ∙ xor_cancel (held 9 feedback 1 (length bytes) (λ k. get_or (written_record bytes) k 0)) offset

pub record_longitudinal_sum : (bytes : List ℕ) → xor_sum (length bytes + checks) (λ k. get_or (written_record bytes) k 0) ≡ 0
record_longitudinal_sum bytes =
    sum_two_more (length bytes) _
    ∙ ap (λ (x : ℕ). xor_sum (length bytes + 1) (λ k. get_or (written_record bytes) k 0) ⊕ x) (record_longitudinal bytes ∙ longitudinal_is bytes)
    ∙ xor_self (xor_sum (length bytes + 1) (λ k. get_or (written_record bytes) k 0))

-- ---- of bytes

-- a place of the record: of data, of the check character, of the longitudinal one
places : (n k : ℕ) → k < n + checks → (k < n) ⊎ ((k ≡ n) ⊎ (k ≡ n + 1))
places n k h = by (dec_lt k n) (ℕ_discrete k n)
  where
    by : Dec (k < n) → Dec (k ≡ n) → (k < n) ⊎ ((k ≡ n) ⊎ (k ≡ n + 1))
    by (yes b) d = inl b
    by (no b) (yes e) = inr (inl e)
    by (no b) (no ne) = inr (inr (omega arith))

module _ (bytes : List ℕ) (below : (k : ℕ) → get_or bytes k 0 < 256) where
  data_lt : (k : ℕ) → k < length bytes → get_or (written_record bytes) k 0 < 512
  data_lt k h = rw (record_data bytes k h) (character_lt (get_or bytes k 0) (below k))

  data_parity : (k : ℕ) → k < length bytes → parity (get_or (written_record bytes) k 0) ≡ 1
  data_parity k h = ap parity (record_data bytes k h) ∙ character_parity (get_or bytes k 0) (below k)

  check_lt : get_or (written_record bytes) (length bytes) 0 < 512
  check_lt = rw (record_check bytes ∙ check_is bytes) (xor_lt 9 _ offset (held_lt 9 feedback 1 (length bytes) _ (lit< tt) data_lt) (lit< tt))

  front_lt : (k : ℕ) → k < length bytes + 1 → get_or (written_record bytes) k 0 < 512
  front_lt k h = by (dec_lt k (length bytes))
    where
      by : Dec (k < length bytes) → get_or (written_record bytes) k 0 < 512
      by (yes b) = data_lt k b
      by (no b) = let last : k ≡ length bytes = omega arith in rw last check_lt

  pub record_lt : (k : ℕ) → get_or (written_record bytes) k 0 < 512
  record_lt k = by (dec_lt k (length bytes + 1)) (dec_lt k (length bytes + checks))
    where
      by : Dec (k < length bytes + 1) → Dec (k < length bytes + checks) → get_or (written_record bytes) k 0 < 512
      by (yes b) d = front_lt k b
      by (no b) (yes c) =
          let last : k ≡ length bytes + 1 = omega arith in
          rw (last, record_longitudinal bytes ∙ longitudinal_is bytes) (sum_lt 9 (length bytes + 1) _ front_lt)
      by (no b) (no c) =
          rw (get_or-eq_default (written_record bytes) 0 {n = k} (omega (arith, length_record bytes))) (zero-lt-suc 511)

  -- the check character has even parity if the data are odd in number
  pub check_parity : parity (check_character (map character_of bytes)) ≡ (length bytes + 1) % 2
  check_parity =
      ap parity (check_is bytes)
      ∙ parity_xor _ offset
      ∙ ap₂ ◌⊕◌ (held_parity 9 feedback 1 (length bytes) _ (lit< tt) data_lt feedback_odd ∙ sum_odd (length bytes) _ data_parity) offset_odd
      ∙ odd_more (length bytes) 1 (lit< tt)

  -- and the longitudinal one is odd
  pub longitudinal_parity : parity (longitudinal (with_check (map character_of bytes))) ≡ 1
  longitudinal_parity =
      ap parity (longitudinal_is bytes ∙ sum_one_more (length bytes) _)
      ∙ parity_xor _ (get_or (written_record bytes) (length bytes) 0)
      ∙ ap₂ ◌⊕◌ (sum_odd (length bytes) _ data_parity)
      (ap parity (record_check bytes) ∙ check_parity ∙ sym (odd_more (length bytes) 1 (lit< tt)))
      ∙ xor_cancel (length bytes % 2) 1

  pub record_parity : (l : List ℕ) (k : ℕ) → k < length bytes + checks
      → parity (get_or (written_record bytes) k 0) ≡ expected_parity (length bytes) l k
  unfolding expected_parity
  record_parity l k h = by (places (length bytes) k h)
    where
      other : (k ≡ length bytes → ⊥) → 1 ≡ expected_parity (length bytes) l k
      other ne = sym (ap (λ (t : Bool). cond t ((length bytes + 1) % 2) 1) (ne_eqb k (length bytes) ne))

      by : (k < length bytes) ⊎ ((k ≡ length bytes) ⊎ (k ≡ length bytes + 1))
          → parity (get_or (written_record bytes) k 0) ≡ expected_parity (length bytes) l k
      by (inl b) = data_parity k b ∙ other (λ e. omega arith)
      by (inr (inl e)) =
          ap (λ (j : ℕ). parity (get_or (written_record bytes) j 0)) e
          ∙ ap parity (record_check bytes)
          ∙ check_parity
          ∙ sym (ap (λ (t : Bool). cond t ((length bytes + 1) % 2) 1) (eq-eqb k (length bytes) e))
      by (inr (inr e)) =
          ap (λ (j : ℕ). parity (get_or (written_record bytes) j 0)) e
          ∙ ap parity (record_longitudinal bytes)
          ∙ longitudinal_parity
          ∙ other (λ q. omega arith)

  pub bytes_back : tabulate (length bytes) (λ k. get_or (written_record bytes) k 0 % 256) ≡ bytes
  bytes_back =
      ext_get_or 0 _ bytes (length_tabulate (length bytes) _)
      (λ k q. let h : k < length bytes = omega (arith, length_tabulate (length bytes) (λ k. get_or (written_record bytes) k 0 % 256)) in
      get_d_tabulate (length bytes) _ k 0 h
      ∙ ap (λ (c : ℕ). c % 256) (record_data bytes k h)
      ∙ character_byte (get_or bytes k 0) (below k))

-- ---- characters of which the data are odd, and the two sums right, are a written record

module _ (bytes : List ℕ) (c : ℕ → ℕ) (data-are : (k : ℕ) → k < length bytes → character_of (get_or bytes k 0) ≡ c k)
    (check_holds : check_sum (length bytes + 1) c ≡ offset) (sum-holds : xor_sum (length bytes + checks) c ≡ 0) where
  same_data : (k : ℕ) → k < length bytes → get_or (written_record bytes) k 0 ≡ c k
  same_data k h = record_data bytes k h ∙ data-are k h

  same_check : get_or (written_record bytes) (length bytes) 0 ≡ c (length bytes)
  same_check =
      record_check bytes
      ∙ check_is bytes
      ∙ ap₂ ◌⊕◌ (held_ext 9 feedback 1 (length bytes) _ c same_data) (sym check_holds ∙ check_sum_last (length bytes) c)
      ∙ xor_cancel (held 9 feedback 1 (length bytes) c) (c (length bytes))

  same_front : (k : ℕ) → k < length bytes + 1 → get_or (written_record bytes) k 0 ≡ c k
  same_front k h = by (dec_lt k (length bytes))
    where
      by : Dec (k < length bytes) → get_or (written_record bytes) k 0 ≡ c k
      by (yes b) = same_data k b
      by (no b) = let last : k ≡ length bytes = omega arith in rw last same_check

  same_longitudinal : get_or (written_record bytes) (length bytes + 1) 0 ≡ c (length bytes + 1)
  same_longitudinal =
      record_longitudinal bytes
      ∙ longitudinal_is bytes
      ∙ sum_ext (length bytes + 1) _ c same_front
      ∙ xor_zero→eq (xor_sum (length bytes + 1) c) (c (length bytes + 1)) (sym (sum_two_more (length bytes) c) ∙ sum-holds)

  same_character : (k : ℕ) → k < length bytes + checks → get_or (written_record bytes) k 0 ≡ c k
  same_character k h = by (dec_lt k (length bytes + 1))
    where
      by : Dec (k < length bytes + 1) → get_or (written_record bytes) k 0 ≡ c k
      by (yes b) = same_front k b
      by (no b) = let last : k ≡ length bytes + 1 = omega arith in rw last same_longitudinal

  same_record : written_record bytes ≡ tabulate (length bytes + checks) c
  same_record =
      ext_get_or 0 _ _ (length_record bytes ∙ sym (length_tabulate (length bytes + checks) c))
      (λ k q. let h : k < length bytes + checks = omega (arith, length_record bytes) in
      same_character k h ∙ sym (get_d_tabulate (length bytes + checks) c k 0 h))

pub written_if : (n : ℕ) (c : ℕ → ℕ) → ((k : ℕ) → k < n + checks → c k < 512) → ((k : ℕ) → k < n → parity (c k) ≡ 1)
    → check_sum (n + 1) c ≡ offset → xor_sum (n + checks) c ≡ 0 → written_record (tabulate n (λ k. c k % 256)) ≡ tabulate (n + checks) c
written_if n c within odd check_holds sum-holds =
    same_record (tabulate n (λ k. c k % 256)) c character (ap (λ (m : ℕ). check_sum (m + 1) c) long ∙ check_holds)
    (ap (λ (m : ℕ). xor_sum (m + checks) c) long ∙ sum-holds)
    ∙ ap (λ (m : ℕ). tabulate (m + checks) c) long
  where
    long : length (tabulate n (λ k. c k % 256)) ≡ n
    long = length_tabulate n _

    character : (k : ℕ) → k < length (tabulate n (λ k. c k % 256)) → character_of (get_or (tabulate n (λ k. c k % 256)) k 0) ≡ c k
    character k q =
        let h : k < n = omega (arith, long) in
        ap character_of (get_d_tabulate n _ k 0 h) ∙ odd_character (c k) (within k (omega arith)) (odd k h)
