-- Words as they are read: each byte is read back from its word, each legal word is the word of its value, and a word turned
-- twice is as it was. All are computed tests.
-- Assumes nothing.
use mathlib.Core.Path.{◌≡◌, sym, ap, ◌∙◌}
use mathlib.Core.Bool.{Bool, cond}
use Prim.Native.Nat.{ℕ, ◌/◌, ◌%◌, ◌<◌}
use native.Mathlib.Nat.{mod-lt, zero-lt-suc}
use native.Mathlib.Decide.{dec_lt}
use native.Mathlib.Omega.{arith}
use borrow.Author.Tests.{lt-ltb}
use lib.Dec.{eqb, ltb, ltb→lt}
use lib.ListN.{get_or}
use Rattle.indexed.specs.List.{tabulate, tabulate_from, first_where}
use Rattle.indexed.proofs.Tabulate.{get_d_tabulate}
use Rattle.indexed.proofs.Test.{tested, equal, flag_lt}
use Rattle.register.specs.Bit.{bit, of_bits}
use Rattle.group_code.specs.Code.{decoded, legal, word_of}
use Rattle.group_code.specs.Word.{legal_word, value_of, illegality, mirrored, reversed_word, forward_word, read_of, readings}

-- ---- words and values

pub value_lt : (word : ℕ) → value_of word < 256
unfolding value_of
value_lt word = mod-lt _ (zero-lt-suc 255)

pub illegality_lt : (word : ℕ) → illegality word < 2
unfolding illegality
illegality_lt word = flag_lt (legal_word word)

pub word_lt : (byte : ℕ) → byte < 256 → word_of byte < 1024
word_lt byte h = ltb→lt _ 1024 (tested 256 (λ b. ltb (word_of b) 1024) tt byte h)

pub value_of_word : (byte : ℕ) → byte < 256 → value_of (word_of byte) ≡ byte
unfolding value_of decoded first_where
value_of_word = equal 256 (λ b. value_of (word_of b)) (λ b. b) tt

pub word_legal : (byte : ℕ) → byte < 256 → illegality (word_of byte) ≡ 0
unfolding illegality legal_word legal decoded first_where
word_legal = equal 256 (λ b. illegality (word_of b)) (λ b. 0) tt

-- a word of ten bits is illegal, or the word of its value
pub word_of_value : (word : ℕ) → word < 1024 → illegality word ≡ 0 → word_of (value_of word) ≡ word
unfolding illegality legal_word legal value_of decoded first_where
word_of_value word h e =
    sym (ap (λ (i : ℕ). choose i word (word_of (value_of word))) e)
    ∙ equal 1024 (λ w. choose (illegality w) w (word_of (value_of w))) (λ w. w) tt word h
  where
    choose : ℕ → ℕ → ℕ → ℕ
    choose i w v = cond (eqb i 0) v w

-- ---- words turned

pub reversed_lt : (word : ℕ) → word < 1024 → reversed_word word < 1024
unfolding reversed_word mirrored of_bits bit tabulate tabulate_from
reversed_lt word h = ltb→lt _ 1024 (tested 1024 (λ w. ltb (reversed_word w) 1024) tt word h)

twice_below : (word : ℕ) → word < 1024 → reversed_word (reversed_word word) ≡ word
unfolding reversed_word mirrored of_bits bit tabulate tabulate_from
twice_below = equal 1024 (λ w. reversed_word (reversed_word w)) (λ w. w) tt

pub reversed_above : (word : ℕ) → 1023 < word → reversed_word word ≡ word
unfolding reversed_word
reversed_above word h = ap (λ (b : Bool). cond b word (mirrored 10 word)) (lt-ltb 1023 word h)

pub reversed_twice : (word : ℕ) → reversed_word (reversed_word word) ≡ word
reversed_twice word = by (dec_lt word 1024)
  where
    by : Dec (word < 1024) → reversed_word (reversed_word word) ≡ word
    by (yes h) = twice_below word h
    by (no h) = let stays : reversed_word word ≡ word = reversed_above word (omega arith) in ap reversed_word stays ∙ stays

-- ---- the tables of readings

pub get_or_readings : (backward : Bool) (word : ℕ) → word < 1024 → get_or (readings backward) word 0 ≡ read_of backward word
unfolding readings
get_or_readings backward word h = get_d_tabulate 1024 (read_of backward) word 0 h

-- the value and the mark of a word, out of what it reads
pub read_value : (backward : Bool) (word : ℕ) → read_of backward word % 256 ≡ value_of (forward_word backward word)
unfolding read_of
read_value backward word = let w = forward_word backward word in omega (arith, value_lt w, illegality_lt w)

pub read_mark : (backward : Bool) (word : ℕ) → read_of backward word / 256 ≡ illegality (forward_word backward word)
unfolding read_of
read_mark backward word = let w = forward_word backward word in omega (arith, value_lt w, illegality_lt w)
