-- What a call from C promises: of the number that it returns, of the place and the figures that it stores, and of its output.
-- Assumes nothing.
use Rattle.std.specs.Prelude.{cond, List, ◌≡◌, ℕ, Result, eqb, length}
use Rattle.answer.specs.Answer.{Answer, delivered, refused, told, output_after, figures_after}
use Rattle.answer.specs.declared.Refusal.{Refusal}
use Rattle.terms.specs.Call.{Call, answer_to, result_of}
use Rattle.terms.specs.Terms.{Terms}

-- 0 for a delivery, or the refusal's number
abbrev pub status : Answer → ℕ
status (delivered figures) = 0
status (refused number place) = number

-- the refusal's place, or 0
abbrev pub place_told : Answer → ℕ
place_told (delivered figures) = 0
place_told (refused number place) = place

-- what the caller is told of an answer; `before` and `after` are the figures
pub record Told (answer : Answer) (before after : List ℕ) (returned place : ℕ) : Type 0 where
  pub number : returned ≡ status answer
  pub place_as_told : place ≡ place_told answer
  pub figures : after ≡ figures_after answer before

-- What is done of an answer once its figures are stored: a delivery's are in these numbers, a refusal has left them, and the answer passes
-- through.
pub record Stored (answer : Answer) (before after : List ℕ) (left : Result (Unit {0}) Refusal) : Type 0 where
  pub passed : told (λ _. after) left ≡ answer
  pub figures : after ≡ figures_after answer before

-- the answer as the caller reads it from what was returned and stored
unfoldable pub answer_from : ℕ → ℕ → List ℕ → Answer
answer_from returned place figures = cond (eqb returned 0) (delivered figures) (refused returned place)

-- The call's answer is told, its output is as the answer has it, and the notice's terms hold of the answer as the caller reads it.
pub record Called (call : Call) (before after figuresBefore figures : List ℕ) (returned place : ℕ) : Type 0 where
  pub told : Told (answer_to call (length before)) figuresBefore figures returned place
  pub output : after ≡ output_after (answer_to call (length before)) (result_of call) before
  pub terms : Terms call (answer_from returned place figures) before after
