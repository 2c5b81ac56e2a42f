-- `reader800::reader::read_record` meets its contract: the answer is the judgement's, and what is stored are the data of the track that it
-- tells.
-- Assumes nothing.
use mathlib.Core.Path.{sym, ap, ap₂, ◌∙◌}
use mathlib.Core.List.{List, ◌++◌}
use Prim.Native.Nat.{ℕ}
use native.Mathlib.Omega.{arith}
use lib.Dec.{leb}
use lib.ListN.{length, drop}
use Rattle.std.proofs.lemmas.Result.{err_from_is_err_and}
use Rattle.answer.specs.Answer.{output_after, told_refusal}
use Rattle.record800.specs.Read.{answer_if, read_data}
use Rattle.scan800.specs.Told.{told_read}
use Rattle.record800.proofs.Answer.{length_data}
use Rattle.reader800.proofs.Answering.{promised, refuses}
use Rattle.reader800.proofs.Delivered.{told}
use Rattle.reader800.proofs.reader.read_record.Goals as goal

pub invariant_of-passed : goal.invariant_of-passed
invariant_of-passed c =
    let is = told _ _ _ _ _ _ (sym (ap told_read c.in_ok-figures.was) ∙ c.judge_record.ensures.answer) in
    record { lengths = is.passes.lengths; no_stray = is.passes.no_stray }

pub store-requires : goal.store-requires
store-requires c =
    let is = told _ _ _ _ _ _ (sym (ap told_read c.in_ok-figures.was) ∙ c.judge_record.ensures.answer) in
    (is.is_track, grind (arith, is.some, c.data_length.ensures))

pub returns : goal.returns
unfolding output_after read_data
returns c =
    let args = c.args in
    let output = args.output.now in
    let answer = sym (ap told_read c.in_ok-figures.was) ∙ c.judge_record.ensures.answer in
    let made = promised _ _ _ _ _
    (answer ∙ ap (λ (n : ℕ). answer_if args.backward args.characters.now (leb n (length output))) c.data_length.ensures)
    (c.store.ensures
    ∙ ap₂ (λ (m : List ℕ) (k : ℕ). m ++ drop k output) (told _ _ _ _ _ _ answer).data_told (sym (length_data _ _))) in record {
      answer = made.0;
      track = rw c.in_ok-figures.was at c.judge_record.ensures.track;
      output = made.1.0;
      terms = made.1.1;
    }

pub returns-in_err-figures : goal.returns-in_err-figures
unfolding output_after
returns-in_err-figures c =
    let args = c.args in
    let answer = sym (ap told_read c.in_err-figures.was) ∙ c.judge_record.ensures.answer in
    let e = err_from_is_err_and _ c.from_residual.ensures.1 in
    let made = refuses _ _ _ _ _ _ (ap told_read e.1 ∙ ap told_refusal e.2)
    (sym (answer
    ∙ ap (λ (n : ℕ). answer_if args.backward args.characters.now (leb n (length args.output.now))) c.data_length.ensures)) in record {
      answer = made.0;
      track = rw e.1 tt;
      output = made.1.0;
      terms = made.1.1;
    }
