-- What a call answers, as document 01 tells it: a delivery with its values, or a refusal with its number and its place.
-- Assumes nothing.
use Rattle.std.specs.Prelude.{ℕ, List, [], ◌∷◌, ◌++◌, Result, Ok, Err, length, drop}
use Rattle.answer.specs.declared.Reason.{Reason}
use Rattle.answer.specs.declared.Reason.TheVariants.{Length, Space, StrayBits, ManyPointed, NoGroup, Padding, NoRecord, SeveralRecords, LogLength, LogContent, CardContent, CardLength}
use Rattle.answer.specs.declared.Refusal.{Refusal}

-- the numbers of document 01's table, "Where a call is turned down", and those that document 02 adds: 9 and 10 by request 2.1, 11
-- and 12 by request 2.4
abbrev pub number_of : Reason → ℕ
number_of Length = 1
number_of Space = 2
number_of StrayBits = 3
number_of ManyPointed = 4
number_of NoGroup = 5
number_of Padding = 6
number_of NoRecord = 7
number_of SeveralRecords = 8
number_of LogLength = 9
number_of LogContent = 10
number_of CardContent = 11
number_of CardLength = 12

-- the numbers of all refusals: each reason's is among them
abbrev pub refusals : List ℕ
refusals = 1 ∷ 2 ∷ 3 ∷ 4 ∷ 5 ∷ 6 ∷ 7 ∷ 8 ∷ 9 ∷ 10 ∷ 11 ∷ 12 ∷ []

-- an answer: the values that a delivery tells, in the paper's order, or a refusal's number and place
pub data Answer : Type 0 where
  delivered : List ℕ → Answer
  refused : ℕ → ℕ → Answer

-- the refusal for a reason, at a place
abbrev pub refused_for : Reason → ℕ → Answer
refused_for reason place = refused (number_of reason) place

-- what a refusal tells
abbrev pub told_refusal : Refusal → Answer
told_refusal r = refused_for r.reason r.place

-- what a call tells that gives a value or a refusal: of the value these figures
abbrev pub told : {T : Type 0} → (T → List ℕ) → Result T Refusal → Answer
told figures (Ok value) = delivered (figures value)
told figures (Err r) = told_refusal r

-- what a writer tells: a delivery tells the number of groups or characters, or, of a log, its bytes
abbrev pub told_written : Result ℕ Refusal → Answer
told_written = told (λ count. count ∷ [])

-- What the output holds after a call (the notice, first term): a delivery puts its result at the front and leaves what is
-- behind it; a refusal leaves all of it.
unfoldable pub output_after : Answer → List ℕ → List ℕ → List ℕ
output_after (delivered values) result output = result ++ drop (length result) output
output_after (refused number place) result output = output

-- An answer made of another call's: a delivery tells other figures, made of that call's, and a refusal is passed on as it is.
abbrev pub retold : (List ℕ → List ℕ) → Answer → Answer
retold tells (delivered figures) = delivered (tells figures)
retold tells (refused number place) = refused number place

-- the numbers that receive a delivery's figures, and that a refusal leaves
abbrev pub figures_after : Answer → List ℕ → List ℕ
figures_after (delivered figures) before = figures
figures_after (refused number place) before = before
