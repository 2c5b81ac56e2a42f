-- What copying an 800 record onto a 6250 one writes and answers (document 02, request 2.6): "One call reads an 800 record, forward or backward,
-- and writes its data as a 6250 record into a lent buffer of words. It delivers the 800 reading's figures and the number of groups."
-- Assumes nothing.
use Rattle.std.specs.Prelude.{ℕ, ◌-◌, ◌*◌, Bool, List, [], ◌∷◌, ◌++◌, leb, length}
use Rattle.answer.specs.Answer.{Answer, retold}
use Rattle.cyclic.specs.Constants.{checks}
use Rattle.rectangular.specs.Constants.{numbers_per_group}
use Rattle.record6250.specs.Record.{groups_for, written_record}
use Rattle.record800.specs.Read.{answer_if, read_data}

-- the groups for the data of so many characters, which are all but the two check characters
abbrev pub copy_groups : ℕ → ℕ
copy_groups count = groups_for (count - checks)

-- "short word space taken as its place for 2, needing 9 × the groups for n bytes"
abbrev pub copy_space : ℕ → ℕ
copy_space count = numbers_per_group * copy_groups count

-- the answer for a copy of so many groups, if its reading is answered so: the reading's figures, and the number of groups
abbrev pub copied : ℕ → Answer → Answer
copied groups answer = retold (λ figures. figures ++ (groups ∷ [])) answer

module _ (backward : Bool) (characters : List ℕ) where
  -- the 6250 record of the reading's data: it is written forward, whichever way the reading passed the head
  unfoldable pub copied_record : List ℕ
  copied_record = written_record (read_data backward characters)

  -- the answer with so much space for words: "The 800 reader's refusals apply", by the copy's own space
  unfoldable pub copy_answer : ℕ → Answer
  copy_answer space = copied (copy_groups (length characters)) (answer_if backward characters (leb (copy_space (length characters)) space))
