-- What a loop over nine words looks up and gathers: values packed, the last value with its complement, and the illegal words' bits.
-- Assumes nothing.
use mathlib.Core.Path.{◌≡◌, refl, sym, ap, ap₂, ◌∙◌}
use mathlib.Core.Bool.{Bool, true, false, cond}
use mathlib.Core.List.{List, [], ◌∷◌, ◌++◌}
use Prim.Native.Nat.{ℕ, suc, ◌+◌, ◌*◌, ◌/◌, ◌%◌, ◌^◌, ◌<◌, ◌≤◌}
use native.Mathlib.Decide.{dec_lt}
use native.Mathlib.Nat.{add-zero, zero-mul, zero-lt-suc, lt_of_lt_of_le}
use native.Mathlib.Numerals.{add-one}
use native.Mathlib.Omega.{arith}
use borrow.Author.Tests.{lt-ltb}
use lib.Bits.{bit_or, or_add_and, and_le_l, and_le_r}
use lib.Dec.{ltb}
use lib.ListN.{get_or}
use lib.Pow.{pow_mono, shl_exact}
use Rattle.indexed.specs.List.{tabulate}
use Rattle.indexed.proofs.Tabulate.{get_d_tabulate, tabulate_same}
use Rattle.register.specs.Bit.{of_bits}
use Rattle.register.specs.Xor.{◌⊕◌}
use Rattle.register.proofs.Ones.{tabulated_lt}
use Rattle.group_code.specs.Word.{value_of, illegality, forward_word, read_of, readings}
use Rattle.group_code.proofs.Words.{value_lt, illegality_lt, get_or_readings, read_value, read_mark}
use Rattle.group6250.specs.Packed.{byte_at, values_of, placed_at}
use Rattle.group6250.specs.declared.group.Group.{Group}
use Rattle.record6250.specs.Group.{illegal_map}
use Rattle.record6250.specs.Tape.{numbers_at, words_from}
use Rattle.record6250.specs.Track.{recorded, value_on}
use Rattle.record6250.proofs.Tape.{get_or_numbers_at}
use Rattle.record6250.proofs.Track.{recorded_all}
use Rattle.reading6250.proofs.Packing.{packed, packed_lt, byte_packed, bits_more}

-- the words from an index on, as they are in the forward picture
abbrev pub word_at : Bool → List ℕ → ℕ → ℕ → ℕ
word_at backward words at k = forward_word backward (get_or words (at + k) 0)

pub words_at : (backward : Bool) (words : List ℕ) (at : ℕ) → tabulate 9 (word_at backward words at) ≡ words_from backward (numbers_at words at)
unfolding words_from
words_at backward words at = tabulate_same 9 _ _ (λ k h. ap (forward_word backward) (sym (get_or_numbers_at words at k h)))

-- a word of ten bits in the table of readings: the value and the mark that stand there
module _ (backward : Bool) {table : List ℕ} (is-table : table ≡ readings backward) {word : ℕ} (h : word < 1024) where
  at_word : get_or table word 0 ≡ read_of backward word
  at_word = rw is-table (get_or_readings backward word h)

  pub value_there : get_or table word 0 % 256 ≡ value_of (forward_word backward word)
  value_there = rw at_word (read_value backward word)

  pub mark_there : get_or table word 0 / 256 ≡ illegality (forward_word backward word)
  mark_there = rw at_word (read_mark backward word)

module _ (word : ℕ → ℕ) where
  -- the values of tracks 0 to 7, and nothing for track 8
  unfoldable pub low : ℕ → ℕ
  low k = cond (ltb k 8) (value_of (word k)) 0

  low_below : (k : ℕ) → k < 8 → low k ≡ value_of (word k)
  unfolding low
  low_below k h = ap (λ (b : Bool). cond b (value_of (word k)) 0) (lt-ltb k 8 h)

  pub low_lt : (k : ℕ) → low k < 256
  unfolding low
  low_lt k = by (ltb k 8)
    where
      by : (b : Bool) → cond b (value_of (word k)) 0 < 256
      by true = value_lt (word k)
      by false = zero-lt-suc 255

  pub placed_low : (k : ℕ) → placed_at k (value_of (word k)) ≡ low k * 2 ^ (8 * k)
  unfolding placed_at low
  placed_low k = by (ltb k 8)
    where
      by : (b : Bool) → cond b (value_of (word k) * 2 ^ (8 * k)) 0 ≡ cond b (value_of (word k)) 0 * 2 ^ (8 * k)
      by true = refl
      by false = sym (zero-mul (2 ^ (8 * k)))

  unfoldable pub mark : ℕ → ℕ
  mark k = illegality (word k)

  pub marks_fit : (k : ℕ) → k ≤ 9 → of_bits (tabulate k mark) < 2 ^ 16
  unfolding mark
  marks_fit k h = lt_of_lt_of_le (tabulated_lt k mark (λ i b. illegality_lt (word i))) (pow_mono {j = 16} (omega arith))

  pub packed_low_lt : (k : ℕ) → packed 8 k low < 2 ^ (8 * k)
  packed_low_lt k = packed_lt low k (λ i h. low_lt i)

  packed_next : (n : ℕ) → packed 8 (suc n) low ≡ packed 8 n low + low n * 2 ^ (8 * n)
  unfolding packed
  packed_next n = refl

  -- the ninth adds nothing
  nine_is_eight : packed 8 9 low ≡ packed 8 8 low
  unfolding low
  nine_is_eight = packed_next 8 ∙ ap (λ (x : ℕ). packed 8 8 low + x) (zero-mul (2 ^ 64)) ∙ add-zero (packed 8 8 low)

  pub packed_fits : (k : ℕ) → k ≤ 9 → packed 8 k low < 2 ^ 64
  packed_fits k h = by (dec_lt k 9)
    where
      by : Dec (k < 9) → packed 8 k low < 2 ^ 64
      by (yes b) = lt_of_lt_of_le (packed_low_lt k) (pow_mono {j = 64} (omega arith))
      by (no b) = let e : k ≡ 9 = omega arith in rw (e, nine_is_eight) (packed_low_lt 8)

  -- one word more
  pub more_packed : (k : ℕ) {tracks value placed : ℕ} → tracks ≡ packed 8 k low → value ≡ value_of (word k) → placed ≡ placed_at k value
      → tracks + placed ≡ packed 8 (k + 1) low
  more_packed k t v p =
      ap₂ ◌+◌ t (p ∙ ap (placed_at k) v ∙ placed_low k)
      ∙ sym (packed_next k)
      ∙ ap (λ (n : ℕ). packed 8 n low) (sym (add-one k))

  pub more_marks : {k illegal flag : ℕ} → k < 9 → illegal ≡ of_bits (tabulate k mark) → flag ≡ illegality (word k)
      → illegal + flag * 2 ^ k % 65536 ≡ of_bits (tabulate (k + 1) mark)
  unfolding mark
  more_marks {k} {flag = flag} h i f =
      ap₂ ◌+◌ i (shl_exact {a = flag} 1 k 16 (rw f (illegality_lt (word k))) (omega arith) ∙ ap (λ (x : ℕ). x * 2 ^ k) f)
      ∙ sym (bits_more k mark)
      ∙ ap (λ (n : ℕ). of_bits (tabulate n mark)) (sym (add-one k))

  -- and none of them is illegal if what they read is below 256 together
  pub more_seen : (k read : ℕ) {seen : ℕ} → (seen < 256 → of_bits (tabulate k mark) ≡ 0) → read / 256 ≡ illegality (word k)
      → bit_or seen read < 256 → of_bits (tabulate (k + 1) mark) ≡ 0
  unfolding mark
  more_seen k read {seen} none m h =
      let e : illegality (word k) ≡ 0 = omega (arith, or_add_and seen read, and_le_l seen read) in
      rw (add-one, bits_more k mark, none (omega (arith, or_add_and seen read, and_le_r seen read)), e, zero-mul)

  module _ (words : List ℕ) (are : tabulate 9 word ≡ words) where
    word_is : (k : ℕ) → k < 9 → word k ≡ get_or words k 0
    word_is k h = sym (get_d_tabulate 9 word k 0 h) ∙ ap (λ (l : List ℕ). get_or l k 0) are

    pub all_values : (g : Group) → g.tracks ≡ packed 8 9 low → g.parity ≡ value_of (word 8) ⊕ 255
        → values_of g ≡ tabulate 9 (λ k. value_on k (get_or words k 0))
    unfolding values_of value_on
    all_values g tracks parity =
        ap₂ (λ (l : List ℕ) (p : ℕ). l ++ (p ∷ []))
        (tabulate_same 8 _ _ (λ j h. ap (byte_at j) (tracks ∙ nine_is_eight) ∙ byte_packed low 8 j (λ i b. low_lt i) h ∙ low_below j h)) parity
        ∙ recorded_all (λ k. value_of (word k))
        ∙ tabulate_same 9 _ _ (λ k h. ap (λ (w : ℕ). recorded k (value_of w)) (word_is k h))

    pub all_marks : of_bits (tabulate 9 mark) ≡ illegal_map words
    unfolding illegal_map mark
    all_marks = ap of_bits (tabulate_same 9 _ _ (λ k h. ap illegality (word_is k h)))
