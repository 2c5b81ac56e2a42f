-- What reading a log back tells.
-- Assumes nothing.
use Rattle.std.specs.Prelude.{Result}
use Rattle.answer.specs.Answer.{Answer, told}
use Rattle.answer.specs.declared.Refusal.{Refusal}
use Rattle.track_counts.specs.Counts.{counts_told}
use Rattle.track_counts.specs.declared.Counts.{Counts}

-- a delivery tells the marks of each track
abbrev pub told_back : Result Counts Refusal → Answer
told_back = told counts_told
