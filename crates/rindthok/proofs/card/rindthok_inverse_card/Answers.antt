-- `rindthok::card::rindthok_inverse_card` meets its contract, by what `card::inverse` and `status` ensure.
-- Assumes nothing.
use mathlib.Core.List.{[]}
use mathlib.Core.Path.{refl, sym, ap, ◌∙◌}
use Rattle.answer.specs.Answer.{Answer, figures_after}
use Rattle.terms.specs.Call.{invert_card, answer_to, result_of}
use Rattle.terms.proofs.Terms.{nothing_stored}
use Rattle.rindthok.proofs.Called.{called, stored_told}
use Rattle.rindthok.proofs.card.rindthok_inverse_card.Goals as goal

pub returns : goal.returns
unfolding answer_to result_of
returns c =
    let args = c.args in
    let done = c.inverse in
    let answers = done.ensures.answer in
    called (invert_card args.card.now) _ [] [] _ _ _ _ answers (nothing_stored _)
    (stored_told _ _ _ _ _ _ record {
      passed = refl;
      figures = done.ensures.output ∙ ap (λ (a : Answer). figures_after a args.inverse.now) (sym answers);
    } c.status.ensures.number c.status.ensures.place)
