-- `marks::marks::is_illegal` meets its contract.
-- Assumes nothing.
use mathlib.Core.Path.{ap, ◌∙◌}
use mathlib.Core.Bool.{false}
use mathlib.Core.List.{List}
use Prim.Native.Nat.{ℕ}
use borrow.Author.Rules.{rules}
use lib.ListN.{get_or}
use Rattle.group_code.specs.Word.{read_of}
use Rattle.group_code.proofs.Words.{get_or_readings}
use Rattle.marks.proofs.Legal.{stray_illegal, read_illegal}
use Rattle.marks.proofs.marks.is_illegal.Goals as goal

pub returns-then-word-gt-MOST_WORD : goal.returns-then-word-gt-MOST_WORD
returns-then-word-gt-MOST_WORD c = stray_illegal _ c.if-word-gt-MOST_WORD.true

pub returns : goal.returns
unfolding read_of
returns c =
    let word = c.args.word in
    read_illegal word _
    (ap (λ (l : List ℕ). get_or l word 0) c.readings.ensures ∙ get_or_readings false word (search rules))
