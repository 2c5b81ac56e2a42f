-- `report::whole::make_report` meets its contract. The loop's invariant: the lines of the logs so far were handed over or are on the page.
-- Assumes nothing.
use mathlib.Core.Path.{refl}
use native.Mathlib.Omega.{arith}
use Rattle.report.proofs.State.{state_as, state_bound, state_none, state_roomy, state_more, state_last, last_bound, stopped}
use Rattle.report.proofs.whole.make_report.Goals as goal

pub logs-init : goal.logs-init
logs-init c = rw (c.requires.0, c.requires.1) state_none

pub returns-in_err-sum : goal.returns-in_err-sum
returns-in_err-sum c =
    let l = c.logs in
    let o = c.make_room.new.output in
    let state = state_as (state_roomy l.counter l.total l.output o l.invariant c.in_ok-make_room.ensures) refl c.in_err-sum.ensures in
    stopped l.counter l.total _ _ c.from_residual-in_err-sum.result state (omega (arith, l.auto.counter-end, state_bound state)) c.from_residual-in_err-sum.ensures.1

pub returns-in-None : goal.returns-in-None
returns-in-None c =
    let l = c.logs in
    let o = c.make_room.new.output in
    let room = c.in_ok-make_room.ensures in
    let state = state_roomy l.counter l.total l.output o l.invariant room in
    let last = rw c.in-None.is at c.in_ok-sum.ensures in (
      omega (arith, l.auto.counter-end, last_bound l.counter l.total o.handed o.page c.put_next.new.page state room.0 last),
      state_last l.counter l.total o.handed o.page c.put_next.new.page state room.0 last,
    )

pub logs-preserved : goal.logs-preserved
logs-preserved c =
    let l = c.logs in
    let o = c.make_room.new.output in
    let room = c.in_ok-make_room.ensures in
    state_more l.counter l.total o.handed o.page c.put_next.new.page (state_roomy l.counter l.total l.output o l.invariant room) room.0 c.in-Some.sum (rw c.in-Some.is at c.in_ok-sum.ensures)
