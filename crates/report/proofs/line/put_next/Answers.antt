-- `report::line::put_next` meets its contract: the line is that of what came.
-- Assumes nothing.
use mathlib.Core.Path.{subst, ◌∙◌}
use Prim.Native.Nat.{ℕ}
use lib.ListN.{take}
use lib.Seq.{length-take-le}
use Rattle.report.specs.Made.{LogPut}
use Rattle.report.proofs.Steps.{log_put, total_put, cut_put}
use Rattle.report.proofs.line.put_next.Goals as goal

pub returns-in-Ok-Some : goal.returns-in-Ok-Some
returns-in-Ok-Some c =
    let came = rw c.in-Ok-Some.field-0-is at c.in-Ok-Some.ensures in
    let space = c.read_next.new.log in
    let log = take c.in-Ok-Some.heading.length space in
    log_put came.0 log came.1 (length-take-le _ space came.2.2 ∙ came.2.1) c.args.total c.args.page.now c.put_log.new.page c.put_log.result
    (subst (λ (g : ℕ). LogPut g log c.args.total c.args.page.now c.put_log.new.page c.put_log.result) came.2.0 c.put_log.ensures)

pub returns-in-Ok-None : goal.returns-in-Ok-None
returns-in-Ok-None c = total_put _ _ _ c.put_count.ensures

pub returns-in-Err-Cut : goal.returns-in-Err-Cut
returns-in-Err-Cut c =
    let came = rw c.in-Err-Cut.field-0-is at c.in-Err-Cut.ensures in
    cut_put _ _ _ came.0 came.1 came.2 (rw c.into.ensures at c.put_refusal.ensures)
