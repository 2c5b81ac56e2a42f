-- What the code tells of a copy.
-- Assumes nothing.
use Rattle.std.specs.Prelude.{ℕ, List, Result, [], ◌∷◌, ◌++◌}
use Rattle.answer.specs.Answer.{Answer, told}
use Rattle.answer.specs.declared.Refusal.{Refusal}
use Rattle.scan800.specs.Told.{figures_told}
use Rattle.copier800.specs.declared.copier.Copied.{Copied}

-- a delivery tells the figures of the reading and the number of groups
abbrev pub copy_told : Copied → List ℕ
copy_told copied = figures_told copied.figures ++ (copied.groups ∷ [])

abbrev pub told_copied : Result Copied Refusal → Answer
told_copied = told copy_told
