-- `reader6250::reader::read_within` meets its contract: what is delivered stands in front of the body.
-- Assumes nothing.
use Rattle.std.specs.Prelude.{Result}
use Rattle.std.proofs.lemmas.Result.{err_from_is_err_and}
use mathlib.Core.Path.{sym, ap, ◌∙◌}
use mathlib.Core.List.{List, [], ◌++◌}
use Prim.Native.Nat.{ℕ}
use native.Mathlib.Omega.{arith}
use lib.ListN.{take, drop}
use lib.Seq.{length-take-le}
use Rattle.answer.specs.Answer.{output_after}
use Rattle.record6250.specs.Read.{read_data}
use Rattle.scan6250.specs.Told.{told_read}
use Rattle.reader6250.proofs.Delivery.{told_within, told_short, stored}
use Rattle.reader6250.proofs.reader.read_within.Goals as goal

pub whole_as_slice-judge_record : goal.whole_as_slice-judge_record
whole_as_slice-judge_record g c = omega (arith, c.requires.4)

pub whole_as_slice-judge_record-2 : goal.whole_as_slice-judge_record-2
whole_as_slice-judge_record-2 g c = omega (arith, c.requires.3)

pub returns-in_err-figures-clause-output : goal.returns-in_err-figures-clause-output
unfolding output_after
returns-in_err-figures-clause-output g c =
    let reading = c.args.reading.now in
    let gives = err_from_is_err_and c.from_residual.result c.from_residual.ensures.1 in
    sym (ap (λ (t : Result _ _). output_after (told_read t) (read_data reading.backward reading.words.now reading.maps.now) c.args.output.now) gives.1)

pub slice_bounds-data-end : goal.slice_bounds-data-end
slice_bounds-data-end g c =
    let reading = c.args.reading.now in
    let short = told_short reading.backward reading.words.now reading.maps.now [] c.in_ok-figures.figures.length _ (sym (ap told_read c.in_ok-figures.was) ∙ c.judge_record.ensures.answer) in
    omega (arith, short, c.requires.2)

pub slice_bounds-data-end-2 : goal.slice_bounds-data-end-2
slice_bounds-data-end-2 g c =
    let reading = c.args.reading.now in
    let short = told_short reading.backward reading.words.now reading.maps.now [] c.in_ok-figures.figures.length _ (sym (ap told_read c.in_ok-figures.was) ∙ c.judge_record.ensures.answer) in
    sym (length-take-le c.in_ok-figures.figures.length c.args.output.now (omega (arith, short, c.requires.2)))

pub shared_whole_as_front-copy_from_slice : goal.shared_whole_as_front-copy_from_slice
shared_whole_as_front-copy_from_slice g c =
    let reading = c.args.reading.now in
    let short = told_short reading.backward reading.words.now reading.maps.now [] c.in_ok-figures.figures.length _ (sym (ap told_read c.in_ok-figures.was) ∙ c.judge_record.ensures.answer) in
    (omega (arith, short, c.requires.1), omega (arith, c.requires.4))

pub copy_from_slice-requires : goal.copy_from_slice-requires
copy_from_slice-requires g c =
    let reading = c.args.reading.now in
    let size = c.in_ok-figures.figures.length in
    let is = sym (ap told_read c.in_ok-figures.was) ∙ c.judge_record.ensures.answer in
    let short = told_short reading.backward reading.words.now reading.maps.now [] size _ is in
    length-take-le size c.args.output.now (omega (arith, short, c.requires.2))
    ∙ sym (length-take-le size c.judge_record.new.body (rw c.judge_record.ensures.bytes (told_within reading.backward reading.words.now reading.maps.now _ size _ is)))

pub returns-clause-output : goal.returns-clause-output
returns-clause-output g c =
    let reading = c.args.reading.now in
    let size = c.in_ok-figures.figures.length in
    let output = c.args.output.now in
    let is = sym (ap told_read c.in_ok-figures.was) ∙ c.judge_record.ensures.answer in
    ap (λ (l : List ℕ). l ++ drop size output) (c.copy_from_slice.ensures.after ∙ ap (take size) c.judge_record.ensures.bytes)
    ∙ stored reading.backward reading.words.now reading.maps.now _ size _ is output
