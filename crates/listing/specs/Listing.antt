-- What the listing program prints (document 01, "Bench readings"): a line of nine words, single spaces, for each group; or the
-- refusal.
-- Assumes nothing.
use Rattle.std.specs.Prelude.{ℕ, ◌+◌, ◌*◌, cond, List, [], ◌∷◌, ◌++◌, eqb, length, get_or, Ok}
use Rattle.answer.specs.Answer.{Answer, delivered, refused}
use Rattle.indexed.specs.List.{blocks}
use Rattle.rectangular.specs.Constants.{numbers_per_group, most_groups}
use Rattle.record6250.specs.Record.{written_record}
use Rattle.record6250.specs.Written.{write_answer}
use Rattle.answer_text.specs.Refusal.{refusal_text}
use Rattle.page.specs.Ascii.{ascii}
use Rattle.streams.specs.Message.{unread_text}
use Rattle.page.specs.Page.{PageText, decimal_text, Printed}
use Rattle.streams.specs.declared.Text.{Text}
use Rattle.streams.specs.declared.Text.TheVariants.{Output, Message}

-- word j of a line, a space in front of all but the first
abbrev pub word_text : ℕ → ℕ → List ℕ
word_text j word = cond (eqb j 0) [] (ascii " ") ++ decimal_text word

-- the first words from an index on
abbrev pub words_text : List ℕ → ℕ → ℕ → List ℕ
words_text words at count = blocks count (λ j. word_text j (get_or words (at + j) 0))

-- the line of the group at an index
abbrev pub group_text : List ℕ → ℕ → List ℕ
group_text words at = words_text words at numbers_per_group ++ ascii "\n"

abbrev pub record_text : List ℕ → ℕ → List ℕ
record_text words groups = blocks groups (λ g. group_text words (numbers_per_group * g))

abbrev pub answer_text : List ℕ → Answer → List ℕ
answer_text words (delivered []) = []
answer_text words (delivered (groups ∷ figures)) = record_text words groups
answer_text words (refused number place) = refusal_text number place

-- the words of the longest record
abbrev pub most_words : ℕ
most_words = numbers_per_group * most_groups

-- the listing of data: there is space for the longest record
abbrev pub listing_text : List ℕ → List ℕ
listing_text bytes = answer_text (written_record bytes) (write_answer (length bytes) most_words)

-- what is put on a page: the listing of data, and nothing else, for standard output; or why there are none, for standard error
abbrev pub Listed : PageText → Text → Type 0
Listed page Output = (bytes : List ℕ) × Printed (listing_text bytes) (Ok []) page
Listed page Message = (number : ℕ) × Printed (unread_text number) (Ok []) page

-- and of data that are known: their own listing, to the last byte, also where they are too long; or a read failed
abbrev pub ListedOf : List ℕ → PageText → Text → Type 0
ListedOf bytes page Output = Printed (listing_text bytes) (Ok []) page
ListedOf bytes page Message = (number : ℕ) × Printed (unread_text number) (Ok []) page
