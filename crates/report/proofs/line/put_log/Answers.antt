-- `report::line::put_log` meets its contract: the line is that of what was answered, and a delivery's maps are counted.
-- Assumes nothing.
use mathlib.Core.Path.{◌≡◌, ap, ◌∙◌}
use Prim.Native.Nat.{ℕ, ◌+◌}
use native.Mathlib.Omega.{arith}
use Rattle.sense_log.specs.Log.{marks}
use Rattle.sense_log.specs.Back.{read_log_answer}
use Rattle.report.specs.Report.{marks_of}
use Rattle.report.proofs.Answered.{maps_fit, marks_few, is_delivered, maps_in_front}
use Rattle.report.proofs.line.put_log.Goals as goal

pub shared_ref_as_front-count_marks : goal.shared_ref_as_front-count_marks
shared_ref_as_front-count_marks c =
    let told = c.read_log.ensures.answer ∙ ap (read_log_answer c.args.groups c.args.log.now) c.told-maps in
    maps_fit c.args.groups c.args.log.now _ (is_delivered c.args.groups c.args.log.now c.read_log.result told _ c.in-Ok.is)

pub overflow_add-result : goal.overflow_add-result
overflow_add-result c =
    let told = c.read_log.ensures.answer ∙ ap (read_log_answer c.args.groups c.args.log.now) c.told-maps in
    let read_back = is_delivered c.args.groups c.args.log.now c.read_log.result told _ c.in-Ok.is in
    let front = maps_in_front c.args.groups c.args.log.now c.read_log.result told _ c.in-Ok.is c.args.maps.now c.read_log.new.maps c.read_log.ensures.maps in
    let counted : c.count_marks-count.result ≡ marks_of c.args.groups c.args.log.now = c.count_marks-count.ensures ∙ ap marks front in
    omega (arith, counted, marks_few c.args.groups c.args.log.now _ read_back, c.requires)

pub returns-in-Ok : goal.returns-in-Ok
returns-in-Ok c =
    let told = c.read_log.ensures.answer ∙ ap (read_log_answer c.args.groups c.args.log.now) c.told-maps in
    let read_back = is_delivered c.args.groups c.args.log.now c.read_log.result told _ c.in-Ok.is in
    let front = maps_in_front c.args.groups c.args.log.now c.read_log.result told _ c.in-Ok.is c.args.maps.now c.read_log.new.maps c.read_log.ensures.maps in
    let counted : c.count_marks-count.result ≡ marks_of c.args.groups c.args.log.now = c.count_marks-count.ensures ∙ ap marks front in
    ((_, read_back), ap (λ (n : ℕ). c.args.total + n) counted, rw counted at c.put_count.ensures)
