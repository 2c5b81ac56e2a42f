-- `head_order::ways::words` meets its contract, by what `checked` and `arrange` ensure.
-- Assumes nothing.
use mathlib.Core.List.{List, ◌++◌}
use mathlib.Core.Path.{sym, ap, ◌∙◌}
use Prim.Native.Nat.{ℕ}
use lib.ListN.{drop}
use Rattle.std.proofs.lemmas.Result.{err_from_is_err_and}
use Rattle.answer.specs.Answer.{output_after}
use Rattle.track_order.specs.Order.{arranged}
use Rattle.track_order.specs.Moved.{words_answer}
use Rattle.track_order.proofs.Moved.{sizes_passed}
use Rattle.track_order.proofs.Order.{length_arranged}
use Rattle.head_order.proofs.Told.{refused_output}
use Rattle.head_order.proofs.ways.words.Goals as goal

pub returns-in_err-words-clause-output : goal.returns-in_err-words-clause-output
returns-in_err-words-clause-output c =
    refused_output _ c.args.target.now _ _ (err_from_is_err_and _ c.from_residual.ensures.1).1

pub arrange-requires : goal.arrange-requires
unfolding words_answer
arrange-requires c = (sizes_passed _ _ _ _ (sym c.in_ok-words.ensures.answer)).1

pub returns-clause-output : goal.returns-clause-output
unfolding output_after
returns-clause-output c =
    let args = c.args in
    let moved : List ℕ = arranged args.way.now args.source.now in
    c.arrange.ensures
    ∙ ap (λ (l : List ℕ). arranged args.way.now l ++ drop 9 args.target.now) c.in_ok-words.ensures.words
    ∙ ap (λ (n : ℕ). moved ++ drop n args.target.now) (sym (length_arranged args.way.now args.source.now))
