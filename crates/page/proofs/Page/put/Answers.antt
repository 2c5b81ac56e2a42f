-- `page::Page::put` meets its contract: of a page on which the text does not fit nothing is handed over.
-- Assumes nothing.
use mathlib.Core.Path.{sym}
use Rattle.page.proofs.Printed.{not_printed}
use Rattle.page.proofs.Page.put.Goals as goal

pub returns-then-text-held-clause-text : goal.returns-then-text-held-clause-text
returns-then-text-held-clause-text c =
    let within = rw c.in-Ok.is at c.self.invariant in
    rw (sym c.self.view_is, c.in-Ok.is) (not_printed c.self.inside.bytes c.in-Ok.held c.args.text.now within c.self.told c.if-text-held.true)
