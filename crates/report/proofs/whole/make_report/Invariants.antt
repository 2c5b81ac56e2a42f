-- `report::whole::make_report` meets its contract. The loop's invariant: the lines of the logs so far were handed over or are on the page.
-- Assumes nothing.
use Rattle.report.proofs.State.{State}
use Rattle.report.proofs.whole.make_report.Given as goal

abbrev pub invariant-logs : goal.invariant-logs
invariant-logs l = State l.counter l.total l.output.handed l.output.page
