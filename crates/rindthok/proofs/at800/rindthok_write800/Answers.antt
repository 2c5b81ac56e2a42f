-- `rindthok::at800::rindthok_write800` meets its contract, by what `writer800::write` and `store_count` ensure.
-- Assumes nothing.
use Rattle.terms.specs.Call.{write, answer_to, result_of}
use Rattle.terms.specs.Reading.{bpi800, written_record}
use Rattle.rindthok.proofs.Called.{called, stored_told}
use Rattle.rindthok.proofs.at800.rindthok_write800.Goals as goal

pub returns : goal.returns
unfolding answer_to result_of written_record
returns c =
    let args = c.args in
    let done = c.write in
    called (write bpi800 args.bytes.now) _ _ _ _ _ _ _ done.ensures.answer done.ensures.output
    (stored_told _ _ _ _ _ _ c.store_count.ensures c.status.ensures.number c.status.ensures.place)
