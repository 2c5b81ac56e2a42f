-- How a group lies among the numbers that are lent (document 01, "The 6250 record" and "Backward"): as nine words, tracks 0 to 8, of ten
-- bits each; backward, each word's ten bits are reversed. What else is said of records goes through these names.
-- Assumes nothing.
use Rattle.std.specs.Prelude.{ℕ, ◌+◌, Bool, List, ltb, get_or}
use Rattle.indexed.specs.List.{tabulate, first_below}
use Rattle.group_code.specs.Word.{reversed_word, forward_word}
use Rattle.rectangular.specs.Constants.{tracks, numbers_per_group, most_number}

-- the numbers of the group that begins at an index
unfoldable pub numbers_at : List ℕ → ℕ → List ℕ
numbers_at numbers at = tabulate numbers_per_group (λ k. get_or numbers (at + k) 0)

-- one of them has a bit beyond its width
unfoldable pub stray_numbers : List ℕ → Bool
stray_numbers numbers = ltb (first_below numbers_per_group (λ k. ltb most_number (get_or numbers k 0))) numbers_per_group

-- the nine words of a group, from its numbers as they were read, forward or backward
unfoldable pub words_from : Bool → List ℕ → List ℕ
words_from backward numbers = tabulate tracks (λ k. forward_word backward (get_or numbers k 0))

-- the numbers of nine words, as they are written
unfoldable pub numbers_from : List ℕ → List ℕ
numbers_from words = words

-- the numbers of a group as they pass the head the other way
unfoldable pub turned_group : List ℕ → List ℕ
turned_group numbers = tabulate numbers_per_group (λ k. reversed_word (get_or numbers k 0))
