-- What reading a log back answers, check by check.
-- Assumes nothing.
use mathlib.Core.Path.{◌≡◌, ap, ◌∙◌}
use mathlib.Core.Bool.{Bool, true, false, cond}
use mathlib.Core.List.{List}
use Prim.Native.Nat.{ℕ, ◌≤◌}
use borrow.Author.Tests.{leb-true}
use lib.Dec.{leb}
use Rattle.answer.specs.Answer.{Answer, delivered, refused_for}
use Rattle.answer.specs.declared.Reason.TheVariants.{Space, LogLength, LogContent}
use Rattle.answer.proofs.Passed.{test_held}
use Rattle.sense_log.specs.Back.{length_suits, content_suits, maps_of, read_log_answer}
use Rattle.sense_log.specs.Log.{track_marks}

module _ (groups : ℕ) (log : List ℕ) (space : ℕ) where
  -- the answer once space has passed, and once length has
  abbrev by_length : Answer
  by_length = cond (length_suits groups log) (cond (content_suits groups log) (delivered (track_marks (maps_of groups log))) (refused_for LogContent 0)) (refused_for LogLength 0)

  abbrev by_content : Answer
  by_content = cond (content_suits groups log) (delivered (track_marks (maps_of groups log))) (refused_for LogContent 0)

  pub back_no_space : leb groups space ≡ false → read_log_answer groups log space ≡ refused_for Space 0
  unfolding read_log_answer
  back_no_space e = ap (λ (b : Bool). cond b by_length (refused_for Space 0)) e

  module _ (room : leb groups space ≡ true) where
    spaced : read_log_answer groups log space ≡ by_length
    unfolding read_log_answer
    spaced = ap (λ (b : Bool). cond b by_length (refused_for Space 0)) room

    pub back_no_length : length_suits groups log ≡ false → read_log_answer groups log space ≡ refused_for LogLength 0
    back_no_length e = spaced ∙ ap (λ (b : Bool). cond b by_content (refused_for LogLength 0)) e

    module _ (suits : length_suits groups log ≡ true) where
      pub back_by_content : read_log_answer groups log space ≡ by_content
      back_by_content = spaced ∙ ap (λ (b : Bool). cond b by_content (refused_for LogLength 0)) suits

      pub back_no_content : content_suits groups log ≡ false → read_log_answer groups log space ≡ refused_for LogContent 0
      back_no_content e = back_by_content ∙ ap (λ (b : Bool). cond b (delivered (track_marks (maps_of groups log))) (refused_for LogContent 0)) e

      pub back_all : content_suits groups log ≡ true → read_log_answer groups log space ≡ delivered (track_marks (maps_of groups log))
      back_all e = back_by_content ∙ ap (λ (b : Bool). cond b (delivered (track_marks (maps_of groups log))) (refused_for LogContent 0)) e

  -- a good log: its length and its content suit, and there is space for its maps
  pub back_delivered : (figures : List ℕ) → read_log_answer groups log space ≡ delivered figures
      → (groups ≤ space) × (length_suits groups log ≡ true) × (content_suits groups log ≡ true)
  unfolding read_log_answer
  back_delivered figures e =
      let room = test_held (leb groups space) _ 2 0 figures e in
      let suits = test_held (length_suits groups log) _ 9 0 figures room.1 in
      let good = test_held (content_suits groups log) _ 10 0 figures suits.1 in
      (leb-true groups space room.0, suits.0, good.0)
