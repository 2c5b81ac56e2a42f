-- `judge6250::errors::weight` meets its contract.
-- Assumes nothing.
use mathlib.Core.Path.{sym, ◌∙◌}
use Rattle.rectangular.specs.Constants.{feedback}
use Rattle.rectangular.proofs.Syndrome.{weighed_low, weighed_parity}
use Rattle.judge6250.proofs.errors.weight.Goals as goal

pub returns-then-track-lt-PARITY_TRACK : goal.returns-then-track-lt-PARITY_TRACK
returns-then-track-lt-PARITY_TRACK c =
    let args = c.args in
    c.forward_power.ensures ∙ sym (weighed_low 8 feedback args.track args.error c.if-track-lt-PARITY_TRACK.true)

pub returns-else-track-lt-PARITY_TRACK : goal.returns-else-track-lt-PARITY_TRACK
returns-else-track-lt-PARITY_TRACK c =
    let args = c.args in
    sym (weighed_parity 8 feedback args.track args.error c.if-track-lt-PARITY_TRACK.false)
