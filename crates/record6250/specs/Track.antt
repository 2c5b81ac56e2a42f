-- A track's word from its value, and back: the group code of ten bits (document 01, "The 6250 group"), on track 8 of the complement
-- (document 02, "2.2 Odd parity in track 8").
-- Assumes nothing.
use Rattle.std.specs.Prelude.{ℕ, cond, List, eqb, get_or}
use Rattle.indexed.specs.List.{tabulate}
use Rattle.register.specs.Xor.{◌⊕◌}
use Rattle.group_code.specs.Code.{word_of}
use Rattle.group_code.specs.Word.{value_of}
use Rattle.rectangular.specs.Constants.{tracks}

-- The byte that a track records for its value in document 000's group. There track 8 is the exclusive-or of Z0 to Z7; "track 8 becomes the
-- complement of the exclusive-or of Z0 to Z7, in writing and reading". The complement of the complement is the value, so this is the way
-- back too.
unfoldable pub recorded : ℕ → ℕ → ℕ
recorded track value = cond (eqb track 8) (value ⊕ 255) value

-- the word that records a value on a track
unfoldable pub word_on : ℕ → ℕ → ℕ
word_on track value = word_of (recorded track value)

-- the value that a word records on a track; of an illegal word no more is known than that it is a byte
unfoldable pub value_on : ℕ → ℕ → ℕ
value_on track word = recorded track (value_of word)

-- the words of nine values, tracks 0 to 8
unfoldable pub words_of : List ℕ → List ℕ
words_of values = tabulate tracks (λ k. word_on k (get_or values k 0))
