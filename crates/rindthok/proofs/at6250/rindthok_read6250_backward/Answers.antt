-- `rindthok::at6250::rindthok_read6250_backward` meets its contract, by what `reader6250::read_record` and `store_figures` ensure.
-- Assumes nothing.
use mathlib.Core.Bool.{true}
use Rattle.terms.specs.Call.{read, answer_to, result_of}
use Rattle.terms.specs.Reading.{at6250, read_answer, read_data}
use Rattle.rindthok.proofs.Called.{called, stored_told}
use Rattle.rindthok.proofs.at6250.rindthok_read6250_backward.Goals as goal

pub returns : goal.returns
unfolding answer_to result_of read_answer read_data
returns c =
    let args = c.args in
    let done = c.read_record-answer in
    called (read (at6250 true args.words.now args.maps.now)) _ _ _ _ _ _ _ done.ensures.answer done.ensures.output
    (stored_told _ _ _ _ _ _ c.store_figures.ensures c.status.ensures.number c.status.ensures.place)
