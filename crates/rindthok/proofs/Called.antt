-- A call from C whose answer, output and figures are those of the call in the library: what it promises follows.
-- Assumes nothing.
use mathlib.Core.Bool.{Bool, cond}
use mathlib.Core.List.{List, []}
use mathlib.Core.Path.{◌≡◌, refl, sym, ap, ap₂, subst, ◌∙◌}
use Prim.Native.Nat.{ℕ}
use native.Mathlib.Omega.{arith}
use borrow.Author.Tests.{eq-eqb, ne_eqb}
use lib.ListN.{length}
use Rattle.answer.specs.Answer.{Answer, delivered, refused, told, output_after}
use Rattle.answer.proofs.Listed.{listed_positive}
use Rattle.answer.specs.declared.Refusal.{Refusal}
use Rattle.std.specs.Prelude.{Result, Ok, Err}
use Rattle.terms.specs.Call.{Call, answer_to, result_of}
use Rattle.terms.specs.Terms.{FirstTerm}
use Rattle.terms.proofs.Terms.{terms_hold}
use Rattle.rindthok.specs.Called.{status, place_told, Told, Stored, answer_from, Called}

-- the answer is read from what is told, if no refusal has number 0
answer_read : (call : Call) (answer : Answer) (before after figuresBefore figures : List ℕ) (returned place : ℕ)
    → FirstTerm call answer before after → Told answer figuresBefore figures returned place → answer_from returned place figures ≡ answer
unfolding answer_from FirstTerm
answer_read call (Answer.delivered values) before after figuresBefore figures returned place first told =
    ap (λ (b : Bool). cond b (delivered figures) (refused returned place)) (eq-eqb returned 0 told.number) ∙ ap delivered told.figures
answer_read call (Answer.refused number at) before after figuresBefore figures returned place first told =
    ap (λ (b : Bool). cond b (delivered figures) (refused returned place))
    (ne_eqb returned 0 (λ e. omega (arith, listed_positive number first.0, told.number)))
    ∙ ap₂ refused told.number told.place_as_told

module _ (call : Call) (answer : Answer) (before after figuresBefore figures : List ℕ) (returned place : ℕ)
    (answers : answer ≡ answer_to call (length before)) (stores : after ≡ output_after answer (result_of call) before)
    (told : Told answer figuresBefore figures returned place) where
  pub called : Called call before after figuresBefore figures returned place
  called =
      let terms = terms_hold answer before after call answers stores in
      let read = answer_read call answer before after figuresBefore figures returned place terms.first told in
      record {
        told = subst (λ (a : Answer). Told a figuresBefore figures returned place) answers told;
        output = stores ∙ ap (λ (a : Answer). output_after a (result_of call) before) answers;
        terms =
            terms_hold (answer_from returned place figures) before after call (read ∙ answers)
            (stores ∙ ap (λ (a : Answer). output_after a (result_of call) before) (sym read));
      }

-- the number and the place that C gets are those of the answer, whatever its figures
same_status : (left : Result (Unit {0}) Refusal) (figures : List ℕ) → status (told (λ _. []) left) ≡ status (told (λ _. figures) left)
same_status (Ok done) figures = refl
same_status (Err r) figures = refl

same_place : (left : Result (Unit {0}) Refusal) (figures : List ℕ) → place_told (told (λ _. []) left) ≡ place_told (told (λ _. figures) left)
same_place (Ok done) figures = refl
same_place (Err r) figures = refl

pub stored_told : (answer : Answer) (before after : List ℕ) (left : Result (Unit {0}) Refusal) (returned place : ℕ)
    → Stored answer before after left → returned ≡ status (told (λ _. []) left) → place ≡ place_told (told (λ _. []) left)
    → Told answer before after returned place
stored_told answer before after left returned place stored number at = record {
  number = number ∙ same_status left after ∙ ap status stored.passed;
  place_as_told = at ∙ same_place left after ∙ ap place_told stored.passed;
  figures = stored.figures;
}

-- what is stored without a figure, as nine words are
pub no_figures : (left : Result (Unit {0}) Refusal) → Stored (told (λ _. []) left) [] [] left
no_figures (Ok done) = record { passed = refl; figures = refl }
no_figures (Err r) = record { passed = refl; figures = refl }
