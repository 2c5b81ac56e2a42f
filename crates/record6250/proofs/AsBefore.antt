-- Definitions that go by how a group lies on tape say what document 01 says in words: changes counted over all words of the forward picture,
-- stray bits in the words as they stand there, and groups turned. A request that changes one of these names changes its law here. What
-- track 8 records, and which tracks are relied on, are not as before: these stand in OddParity and WrongPointer.
-- Assumes nothing.
use mathlib.Core.Path.{◌≡◌, refl, sym, ap, ap₂, ◌∙◌}
use mathlib.Core.Bool.{Bool, true, false, ◌||◌}
use mathlib.Core.List.{List, ◌++◌}
use Prim.Native.Nat.{ℕ, ◌+◌, ◌*◌, ◌/◌, ◌<◌}
use lib.Dec.{eqb, ltb}
use lib.ListN.{length, get_or, drop}
use Rattle.slices.specs.Turned.{turned_place}
use Rattle.indexed.specs.Differ.{differences}
use Rattle.indexed.specs.List.{blocks, first_below}
use Rattle.indexed.proofs.Below.{first_below_same}
use Rattle.indexed.proofs.Blocks.{get_or_blocks}
use Rattle.indexed.proofs.Tabulate.{get_d_tabulate}
use Rattle.indexed.proofs.Total.{total_same, differences_same, differences_blocks}
use Rattle.group_code.specs.Word.{forward_word}
use Rattle.record6250.specs.Fits.{words_changed}
use Rattle.record6250.specs.Picture.{group_lent, group_read, turned_numbers}
use Rattle.record6250.specs.Read.{read_numbers, read_group, read_map, stray_at, first_stray}
use Rattle.record6250.specs.Record.{written_record}
use Rattle.record6250.specs.Tape.{numbers_at, stray_numbers, words_from, turned_group}
use Rattle.record6250.proofs.Picture.{length_read}
use Rattle.record6250.proofs.Tape.{get_or_numbers_at, reversed_test}

-- a word of a record that is read forward is the number that lies there
forward_word_lem : (n : ℕ) (words : List ℕ) (g k : ℕ) → k < 9 → get_or (group_read false n words g) k 0 ≡ get_or words (9 * g + k) 0
unfolding group_read group_lent words_from forward_word turned_place
forward_word_lem n words g k h = get_d_tabulate 9 (λ k. get_or (numbers_at words (9 * g)) k 0) k 0 h ∙ get_or_numbers_at words (9 * g) k h

module _ (backward : Bool) (words maps bytes : List ℕ) where
  -- the words of the forward picture, all in a row
  abbrev pub picture_words : List ℕ
  picture_words = blocks (length maps) (read_group backward words maps)

  pub counted_over_all : words_changed backward words maps bytes
      ≡ differences (9 * length maps) (λ k. get_or picture_words k 0) (λ k. get_or (written_record bytes) k 0)
  unfolding words_changed read_group
  counted_over_all =
      sym (differences_blocks 9 (length maps) _ _
      ∙ total_same (length maps) _ _
      (λ g h. differences_same 9 _ _ _ _
      (λ k b. ap₂ eqb
      (get_or_blocks 9 (length maps) (group_read backward (length maps) words) (λ g h. length_read backward (length maps) words g) g k 0 h b)
      (sym (forward_word_lem (length maps) (written_record bytes) g k b)))))

pub stray_as_read : (backward : Bool) (numbers : List ℕ)
    → stray_numbers numbers ≡ ltb (first_below 9 (λ k. ltb 1023 (get_or (words_from backward numbers) k 0))) 9
unfolding stray_numbers words_from forward_word
stray_as_read backward numbers =
    ap (λ (n : ℕ). ltb n 9)
    (first_below_same 9 _ _
    (λ k h. sym (ap (ltb 1023) (get_d_tabulate 9 (λ k. forward_word backward (get_or numbers k 0)) k 0 h) ∙ forward_test backward (get_or numbers k 0))))
  where
    forward_test : (b : Bool) (word : ℕ) → ltb 1023 (forward_word b word) ≡ ltb 1023 word
    forward_test true word = reversed_test word
    forward_test false word = refl

module _ (backward : Bool) (words maps : List ℕ) where
  pub first_stray_as_read : first_stray backward words maps
      ≡ first_below (length maps) (λ g. ltb (first_below 9 (λ k. ltb 1023 (get_or (read_group backward words maps g) k 0))) 9 || ltb 511 (read_map backward words maps g))
  unfolding first_stray stray_at read_numbers read_group group_read
  first_stray_as_read =
      first_below_same (length maps) _ _
      (λ g h. ap (λ (b : Bool). b || ltb 511 (read_map backward words maps g)) (stray_as_read backward (group_lent backward (length maps) words g)))

-- what is turned is the words of each group, read backward, last group first
pub turned_as_read : (numbers : List ℕ)
    → turned_numbers numbers ≡ blocks (length numbers / 9) (group_read true (length numbers / 9) numbers) ++ drop (9 * (length numbers / 9)) numbers
unfolding turned_numbers turned_group group_read words_from forward_word
turned_as_read numbers = refl
