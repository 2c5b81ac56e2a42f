-- `rindthok::log::rindthok_log6250_forward` meets its contract, by what `log_writer::write_log` and `store_count` ensure.
-- Assumes nothing.
use mathlib.Core.Bool.{false}
use Rattle.terms.specs.Call.{log, answer_to, result_of}
use Rattle.rindthok.proofs.Called.{called, stored_told}
use Rattle.rindthok.proofs.log.rindthok_log6250_forward.Goals as goal

pub returns : goal.returns
unfolding answer_to result_of
returns c =
    let args = c.args in
    let done = c.write_log-answer in
    called (log false args.words.now args.maps.now) _ _ _ _ _ _ _ done.ensures.answer done.ensures.log
    (stored_told _ _ _ _ _ _ c.store_count.ensures c.status.ensures.number c.status.ensures.place)
