-- What writing a 6250 record answers (document 01, "Where a call is turned down").
-- Assumes nothing.
use Rattle.std.specs.Prelude.{ℕ, ◌*◌, cond, [], ◌∷◌, leb}
use Rattle.answer.specs.Answer.{Answer, delivered, refused_for}
use Rattle.answer.specs.declared.Reason.TheVariants.{Length, Space}
use Rattle.rectangular.specs.Constants.{numbers_per_group, most_data}
use Rattle.record6250.specs.Record.{groups_for}

-- the answer for so many bytes of data and so much space: refusals 1 and 2 in this order, or the number of groups
unfoldable pub write_answer : ℕ → ℕ → Answer
write_answer size space =
    cond (leb size most_data)
    (cond (leb (numbers_per_group * groups_for size) space) (delivered (groups_for size ∷ [])) (refused_for Space 0))
    (refused_for Length 0)
