-- How a group lies among the lent numbers: its words and its numbers are each other's inverse, and a group that is turned has the same words,
-- read the other way.
-- Assumes nothing.
use mathlib.Core.Path.{◌≡◌, refl, sym, ap, ◌∙◌}
use mathlib.Core.Bool.{Bool, true, false, not}
use mathlib.Core.List.{List}
use Prim.Native.Nat.{ℕ, ◌+◌, ◌<◌, ◌≤◌}
use native.Mathlib.Decide.{dec_lt}
use native.Mathlib.Omega.{arith}
use borrow.Author.Tests.{le-ltb, ltb-false}
use lib.Dec.{ltb}
use lib.ListN.{length, get_or}
use Rattle.indexed.specs.List.{first_below}
use Rattle.indexed.proofs.Below.{first_below_before, first_below_none, first_below_same}
use Rattle.indexed.proofs.Tabulate.{length_tabulate, get_d_tabulate, tabulate_same, tabulate_get_or}
use Rattle.group_code.specs.Word.{reversed_word, forward_word}
use Rattle.group_code.proofs.Words.{reversed_lt, reversed_above, reversed_twice}
use Rattle.rectangular.specs.Constants.{tracks, numbers_per_group}
use Rattle.record6250.specs.Tape.{numbers_at, stray_numbers, words_from, numbers_from, turned_group}

-- ---- how many

pub length_numbers_at : (numbers : List ℕ) (at : ℕ) → length (numbers_at numbers at) ≡ numbers_per_group
unfolding numbers_at
length_numbers_at numbers at = length_tabulate 9 _

pub get_or_numbers_at : (numbers : List ℕ) (at k : ℕ) → k < numbers_per_group → get_or (numbers_at numbers at) k 0 ≡ get_or numbers (at + k) 0
unfolding numbers_at
get_or_numbers_at numbers at k h = get_d_tabulate 9 _ k 0 h

pub length_words_from : (backward : Bool) (numbers : List ℕ) → length (words_from backward numbers) ≡ tracks
unfolding words_from
length_words_from backward numbers = length_tabulate 9 _

pub length_numbers_from : (words : List ℕ) → length words ≡ tracks → length (numbers_from words) ≡ numbers_per_group
unfolding numbers_from
length_numbers_from words nine = nine

pub length_turned_group : (numbers : List ℕ) → length (turned_group numbers) ≡ numbers_per_group
unfolding turned_group
length_turned_group numbers = length_tabulate 9 _

-- ---- words and numbers

-- nine words, written and read forward
pub words_back : (words : List ℕ) → length words ≡ tracks → words_from false (numbers_from words) ≡ words
unfolding words_from numbers_from forward_word
words_back = tabulate_get_or 9

-- the numbers of a group, read forward and written
pub numbers_back : (numbers : List ℕ) → length numbers ≡ numbers_per_group → stray_numbers numbers ≡ false → numbers_from (words_from false numbers) ≡ numbers
unfolding words_from numbers_from forward_word
numbers_back numbers nine none = tabulate_get_or 9 numbers nine

-- ---- stray bits

module _ (numbers : List ℕ) where
  abbrev first_stray_lem : ℕ
  first_stray_lem = first_below 9 (λ k. ltb 1023 (get_or numbers k 0))

  pub number_below : stray_numbers numbers ≡ false → (k : ℕ) → k < numbers_per_group → get_or numbers k 0 < 1024
  unfolding stray_numbers
  number_below e k h =
      let all : 9 ≤ first_stray_lem = ltb-false first_stray_lem 9 e in
      omega (arith, ltb-false 1023 (get_or numbers k 0) (first_below_before 9 (λ k. ltb 1023 (get_or numbers k 0)) k (omega arith)))

  pub none_stray : ((k : ℕ) → k < numbers_per_group → get_or numbers k 0 < 1024) → stray_numbers numbers ≡ false
  unfolding stray_numbers
  none_stray small =
      let all : first_stray_lem ≡ 9 =
      first_below_none 9 (λ k. ltb 1023 (get_or numbers k 0)) (λ k h. le-ltb 1023 (get_or numbers k 0) (omega (arith, small k h))) in
      le-ltb first_stray_lem 9 (omega arith)

pub written_not_stray : (words : List ℕ) → ((k : ℕ) → k < tracks → get_or words k 0 < 1024) → stray_numbers (numbers_from words) ≡ false
unfolding numbers_from
written_not_stray words small = none_stray words small

forward_lt : (backward : Bool) (word : ℕ) → word < 1024 → forward_word backward word < 1024
unfolding forward_word
forward_lt true word h = reversed_lt word h
forward_lt false word h = h

-- a group without stray bits has words of ten bits
pub words_small : (backward : Bool) (numbers : List ℕ) → stray_numbers numbers ≡ false → (k : ℕ) → k < tracks → get_or (words_from backward numbers) k 0 < 1024
unfolding words_from
words_small backward numbers e k h =
    rw (get_d_tabulate 9 (λ k. forward_word backward (get_or numbers k 0)) k 0 h)
    (forward_lt backward (get_or numbers k 0) (number_below numbers e k h))

-- ---- turned

pub reversed_test : (word : ℕ) → ltb 1023 (reversed_word word) ≡ ltb 1023 word
reversed_test word = by (dec_lt word 1024)
  where
    by : Dec (word < 1024) → ltb 1023 (reversed_word word) ≡ ltb 1023 word
    by (yes h) = le-ltb 1023 (reversed_word word) (omega (arith, reversed_lt word h)) ∙ sym (le-ltb 1023 word (omega arith))
    by (no h) = ap (ltb 1023) (reversed_above word (omega arith))

forward_turned : (backward : Bool) (word : ℕ) → forward_word (not backward) (reversed_word word) ≡ forward_word backward word
unfolding forward_word
forward_turned true word = refl
forward_turned false word = reversed_twice word

module _ (numbers : List ℕ) where
  turned_at : (k : ℕ) → k < numbers_per_group → get_or (turned_group numbers) k 0 ≡ reversed_word (get_or numbers k 0)
  unfolding turned_group
  turned_at k h = get_d_tabulate 9 _ k 0 h

  pub words_turned : (backward : Bool) → words_from (not backward) (turned_group numbers) ≡ words_from backward numbers
  unfolding words_from
  words_turned backward =
      tabulate_same 9 _ _ (λ k h. ap (forward_word (not backward)) (turned_at k h) ∙ forward_turned backward (get_or numbers k 0))

  pub stray_turned : stray_numbers (turned_group numbers) ≡ stray_numbers numbers
  unfolding stray_numbers
  stray_turned = ap (λ (n : ℕ). ltb n 9) (first_below_same 9 _ _ (λ k h. ap (ltb 1023) (turned_at k h) ∙ reversed_test (get_or numbers k 0)))
