-- `rindthok::copy::rindthok_copy800_backward` meets its contract, by what `copier800::copy_record` and `store_copied` ensure.
-- Assumes nothing.
use mathlib.Core.Bool.{true}
use Rattle.terms.specs.Call.{copy, answer_to, result_of}
use Rattle.rindthok.proofs.Called.{called, stored_told}
use Rattle.rindthok.proofs.copy.rindthok_copy800_backward.Goals as goal

pub returns : goal.returns
unfolding answer_to result_of
returns c =
    let args = c.args in
    let done = c.copy_record-answer in
    called (copy true args.characters.now) _ _ _ _ _ _ _ done.ensures.answer done.ensures.output
    (stored_told _ _ _ _ _ _ c.store_copied.ensures c.status.ensures.number c.status.ensures.place)
