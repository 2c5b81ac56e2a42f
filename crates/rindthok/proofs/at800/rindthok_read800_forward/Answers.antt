-- `rindthok::at800::rindthok_read800_forward` meets its contract, by what `reader800::read_record` and `store_figures` ensure.
-- Assumes nothing.
use mathlib.Core.Bool.{false}
use Rattle.terms.specs.Call.{read, answer_to, result_of}
use Rattle.terms.specs.Reading.{at800, read_answer, read_data}
use Rattle.rindthok.proofs.Called.{called, stored_told}
use Rattle.rindthok.proofs.at800.rindthok_read800_forward.Goals as goal

pub returns : goal.returns
unfolding answer_to result_of read_answer read_data
returns c =
    let args = c.args in
    let done = c.read_record-answer in
    called (read (at800 false args.characters.now)) _ _ _ _ _ _ _ done.ensures.answer done.ensures.output
    (stored_told _ _ _ _ _ _ c.store_figures.ensures c.status.ensures.number c.status.ensures.place)
