-- A track's word and its value are each other's inverse: on values that are bytes, and on words that are legal.
-- Assumes nothing.
use mathlib.Core.Path.{◌≡◌, refl, ap, ◌∙◌}
use mathlib.Core.Bool.{Bool, true, false, cond}
use mathlib.Core.List.{List, [], ◌∷◌, ◌++◌}
use Prim.Native.Nat.{ℕ, ◌<◌}
use native.Mathlib.Omega.{arith}
use borrow.Author.Tests.{ne_eqb}
use lib.Bits.{xor_lt, xor_self, xor_zero_r}
use lib.Dec.{eqb}
use lib.ListN.{length, get_or}
use Rattle.indexed.specs.List.{tabulate, tabulate_from}
use Rattle.indexed.proofs.Tabulate.{length_tabulate, get_d_tabulate}
use Rattle.register.specs.Xor.{◌⊕◌}
use Rattle.register.proofs.Xor.{xor_assoc}
use Rattle.group_code.specs.Code.{word_of}
use Rattle.group_code.specs.Word.{value_of, illegality}
use Rattle.group_code.proofs.Words.{value_lt, word_lt, word_legal, value_of_word, word_of_value}
use Rattle.record6250.specs.Track.{recorded, word_on, value_on, words_of}

-- ---- the byte on a track

-- tracks 0 to 7 have their values as they are
pub recorded_low : (k value : ℕ) → k < 8 → recorded k value ≡ value
unfolding recorded
recorded_low k value h = ap (λ (b : Bool). cond b (recorded 8 value) value) (ne_eqb k 8 (λ e. absurd (omega arith)))

pub recorded_lt : (k value : ℕ) → value < 256 → recorded k value < 256
unfolding recorded
recorded_lt k value h = by _ (omega arith) (eqb k 8)
  where
    by : (mask : ℕ) → mask < 256 → (b : Bool) → cond b (value ⊕ mask) value < 256
    by mask small true = xor_lt 8 value mask h small
    by mask small false = h

pub recorded_twice : (k value : ℕ) → recorded k (recorded k value) ≡ value
unfolding recorded
recorded_twice k value = by _ (eqb k 8)
  where
    by : (mask : ℕ) (b : Bool) → cond b (cond b (value ⊕ mask) value ⊕ mask) (cond b (value ⊕ mask) value) ≡ value
    by mask true = xor_assoc value mask mask ∙ ap (λ (x : ℕ). value ⊕ x) (xor_self mask) ∙ xor_zero_r value
    by mask false = refl

-- nine of them: eight values as they are, and the complement of the ninth
pub recorded_all : (f : ℕ → ℕ) → tabulate 8 f ++ ((f 8 ⊕ 255) ∷ []) ≡ tabulate 9 (λ k. recorded k (f k))
unfolding recorded tabulate tabulate_from
recorded_all f = refl

-- ---- its word

pub value_on_lt : (k word : ℕ) → value_on k word < 256
unfolding value_on
value_on_lt k word = recorded_lt k (value_of word) (value_lt word)

pub value_of_word_on : (k value : ℕ) → value < 256 → value_on k (word_on k value) ≡ value
unfolding value_on word_on
value_of_word_on k value h = ap (recorded k) (value_of_word (recorded k value) (recorded_lt k value h)) ∙ recorded_twice k value

pub word_of_value_on : (k word : ℕ) → word < 1024 → illegality word ≡ 0 → word_on k (value_on k word) ≡ word
unfolding value_on word_on
word_of_value_on k word h legal = ap word_of (recorded_twice k (value_of word)) ∙ word_of_value word h legal

-- what is written has ten bits and is legal
pub word_on_lt : (k value : ℕ) → value < 256 → word_on k value < 1024
unfolding word_on
word_on_lt k value h = word_lt (recorded k value) (recorded_lt k value h)

pub word_on_legal : (k value : ℕ) → value < 256 → illegality (word_on k value) ≡ 0
unfolding word_on
word_on_legal k value h = word_legal (recorded k value) (recorded_lt k value h)

-- ---- nine of them

pub length_words_of : (values : List ℕ) → length (words_of values) ≡ 9
unfolding words_of
length_words_of values = length_tabulate 9 _

pub get_or_words_of : (values : List ℕ) (k : ℕ) → k < 9 → get_or (words_of values) k 0 ≡ word_on k (get_or values k 0)
unfolding words_of
get_or_words_of values k h = get_d_tabulate 9 _ k 0 h
