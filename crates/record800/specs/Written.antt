-- What writing an 800 record answers (document 01, "Where a call is turned down").
-- Assumes nothing.
use Rattle.std.specs.Prelude.{ℕ, ◌+◌, cond, ◌&&◌, [], ◌∷◌, leb}
use Rattle.answer.specs.Answer.{Answer, delivered, refused_for}
use Rattle.answer.specs.declared.Reason.TheVariants.{Length, Space}
use Rattle.cyclic.specs.Constants.{least_data, most_data, checks}

-- the answer for so many bytes of data and so much space: refusals 1 and 2 in this order, or the number of characters
unfoldable pub write_answer : ℕ → ℕ → Answer
write_answer size space =
    cond (leb least_data size && leb size most_data)
    (cond (leb (size + checks) space) (delivered ((size + checks) ∷ [])) (refused_for Space 0))
    (refused_for Length 0)
