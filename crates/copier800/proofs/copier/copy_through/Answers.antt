-- `copier800::copier::copy_through` meets its contract: the data that are stored are those of the delivery, and the record that is written is
-- theirs.
-- Assumes nothing.
use mathlib.Core.Path.{sym, ap, ◌∙◌}
use mathlib.Core.List.{List, ◌++◌}
use Prim.Native.Nat.{ℕ}
use native.Mathlib.Omega.{arith}
use lib.ListN.{take, length-replicate}
use Rattle.std.proofs.lemmas.Result.{err_from_is_err_and}
use Rattle.answer.specs.Answer.{Answer, retold, output_after, told_refusal, told_written}
use Rattle.copy800.specs.Copy.{copied, copied_record, copy_answer}
use Rattle.record800.specs.Read.{answer_if}
use Rattle.reader800.proofs.Delivered.{told}
use Rattle.scan800.specs.Told.{told_read, figures_told}
use Rattle.copier800.specs.Told.{told_copied}
use Rattle.copier800.proofs.Copying.{part_is, answer_copied, output_copied}
use Rattle.copier800.proofs.copier.copy_through.Goals as goal

pub returns-in_err-figures : goal.returns-in_err-figures
unfolding output_after copy_answer
returns-in_err-figures g c =
    let reading = c.args.reading.now in
    let words = c.args.words.now in
    let e = err_from_is_err_and _ c.from_residual.ensures.1 in
    let tells = ap told_copied e.1 ∙ ap told_refusal e.2 in
    let refused = sym (ap told_read c.in_err-figures.was)
    ∙ c.judge_record.ensures.answer
    ∙ ap (answer_if reading.backward reading.characters.now) c.has_space-enough.ensures in
    record {
      answer = tells ∙ ap (copied _) refused;
      track = rw e.1 tt;
      output = ap (λ (a : Answer). output_after a (copied_record reading.backward reading.characters.now) words) (sym tells);
    }

pub invariant_of-passed : goal.invariant_of-passed
invariant_of-passed g c =
    let is = told _ _ _ _ _ _ (sym (ap told_read c.in_ok-figures.was) ∙ c.judge_record.ensures.answer) in
    record { lengths = is.passes.lengths; no_stray = is.passes.no_stray }

pub store-requires : goal.store-requires
store-requires g c =
    let is = told _ _ _ _ _ _ (sym (ap told_read c.in_ok-figures.was) ∙ c.judge_record.ensures.answer) in
    (is.is_track, omega (arith, c.requires.enough is.passes.lengths, length-replicate {A = ℕ} g.row.SPACE 0))

pub shared_whole_as_front-write : goal.shared_whole_as_front-write
shared_whole_as_front-write g c =
    let is = told _ _ _ _ _ _ (sym (ap told_read c.in_ok-figures.was) ∙ c.judge_record.ensures.answer) in
    (omega (arith, is.all_data, c.requires.enough is.passes.lengths), omega (arith, c.requires.small))

pub returns-in_err-groups : goal.returns-in_err-groups
returns-in_err-groups g c =
    let reading = c.args.reading.now in
    let words = c.args.words.now in
    let is = sym (ap told_read c.in_ok-figures.was)
    ∙ c.judge_record.ensures.answer
    ∙ ap (answer_if reading.backward reading.characters.now) c.has_space-enough.ensures in
    let size = c.in_ok-figures.figures.length in
    let part = ap (take size) c.store.ensures ∙ part_is reading.backward reading.characters.now words _ _ _ is _ in
    let tells : List ℕ → List ℕ = λ groups. figures_told c.in_ok-figures.figures ++ groups in
    let e = err_from_is_err_and _ c.from_residual-in_err-groups.ensures.1 in
    let answers = ap told_copied e.1 ∙ ap told_refusal e.2 ∙ sym (ap (λ w. retold tells (told_written w)) c.in_err-groups.was) in
    record {
      answer = answer_copied reading.backward reading.characters.now words _ _ _ is _ part _ _ c.write.ensures.answer answers;
      track = rw e.1 tt;
      output = output_copied reading.backward reading.characters.now words _ _ _ is _ part _ _ c.write.ensures.answer answers _
          c.write.ensures.output;
    }

pub returns : goal.returns
returns g c =
    let reading = c.args.reading.now in
    let words = c.args.words.now in
    let is = sym (ap told_read c.in_ok-figures.was)
    ∙ c.judge_record.ensures.answer
    ∙ ap (answer_if reading.backward reading.characters.now) c.has_space-enough.ensures in
    let size = c.in_ok-figures.figures.length in
    let part = ap (take size) c.store.ensures ∙ part_is reading.backward reading.characters.now words _ _ _ is _ in
    let tells : List ℕ → List ℕ = λ groups. figures_told c.in_ok-figures.figures ++ groups in
    let answers = sym (ap (λ w. retold tells (told_written w)) c.in_ok-groups.was) in
    record {
      answer = answer_copied reading.backward reading.characters.now words _ _ _ is _ part _ _ c.write.ensures.answer answers;
      track = rw c.in_ok-figures.was at c.judge_record.ensures.track;
      output = output_copied reading.backward reading.characters.now words _ _ _ is _ part _ _ c.write.ensures.answer answers _
          c.write.ensures.output;
    }
