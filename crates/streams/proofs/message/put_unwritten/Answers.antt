-- `streams::message::put_unwritten` meets its contract: one text behind another.
-- Assumes nothing.
use Rattle.std.specs.Prelude.{[], Ok}
use Rattle.page.proofs.Printed.{printed_both}
use Rattle.streams.proofs.message.put_unwritten.Goals as goal

pub returns-in-Ok : goal.returns-in-Ok
returns-in-Ok c = rw c.in-Ok.is (printed_both _ _ (Ok []) _ _ (rw c.clear.ensures at c.put.ensures.text) c.put_cut.ensures)

pub returns-in-Err : goal.returns-in-Err
returns-in-Err c = rw c.in-Err.is (printed_both _ _ (Ok []) _ _ (rw c.clear.ensures at c.put.ensures.text) c.put_error.ensures)
