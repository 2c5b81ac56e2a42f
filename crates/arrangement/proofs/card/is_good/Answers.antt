-- `arrangement::card::is_good` meets its contract. The loop's invariant: the numbers so far are below 9, and seen.
-- Assumes nothing.
use mathlib.Core.Path.{◌≡◌}
use native.Mathlib.Omega.{arith}
use Rattle.arrangement.proofs.Wrong.{seen_none, seen_more, shifted_one, above_tested, seen_tested}
use Rattle.arrangement.proofs.card.is_good.Goals as goal

pub loop-number-init : goal.loop-number-init
loop-number-init c = seen_none _

pub returns-then-number-ge-TRACKS : goal.returns-then-number-ge-TRACKS
returns-then-number-ge-TRACKS c =
    above_tested _ c.told-card c.loop-number.number-index c.loop-number-test.true c.if-number-ge-TRACKS.true

pub loop-number-preserved : goal.loop-number-preserved
loop-number-preserved c =
    let at = c.loop-number in
    let small = c.if-number-ge-TRACKS.false in
    rw (shifted_one _ small) (seen_more _ at.number-index at.seen at.invariant small)

pub returns : goal.returns
returns c =
    let at = c.loop-number in
    let all : at.number-index ≡ 9 = omega arith in
    seen_tested _ c.told-card at.seen (rw all at at.invariant)
