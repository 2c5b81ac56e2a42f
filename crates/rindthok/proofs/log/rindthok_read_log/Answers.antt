-- `rindthok::log::rindthok_read_log` meets its contract, by what `log_reader::read_log` and `store_marks` ensure.
-- Assumes nothing.
use Rattle.terms.specs.Call.{read_log, answer_to, result_of}
use Rattle.rindthok.proofs.Called.{called, stored_told}
use Rattle.rindthok.proofs.log.rindthok_read_log.Goals as goal

pub returns : goal.returns
unfolding answer_to result_of
returns c =
    let args = c.args in
    let done = c.read_log-answer in
    called (read_log args.groups args.log.now) _ _ _ _ _ _ _ done.ensures.answer done.ensures.maps
    (stored_told _ _ _ _ _ _ c.store_marks.ensures c.status.ensures.number c.status.ensures.place)
