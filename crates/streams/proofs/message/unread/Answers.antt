-- `streams::message::unread` meets its contract: one text behind another.
-- Assumes nothing.
use Rattle.std.specs.Prelude.{[], Ok}
use Rattle.page.proofs.Printed.{printed_both}
use Rattle.streams.proofs.message.unread.Goals as goal

pub returns : goal.returns
returns c = printed_both _ _ (Ok []) _ _ (rw c.clear.ensures at c.put.ensures.text) c.put_error.ensures
