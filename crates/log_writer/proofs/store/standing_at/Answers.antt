-- `log_writer::store::standing_at` meets its contract.
-- Assumes nothing.
use mathlib.Core.Path.{◌≡◌, refl, sym, ap, ◌∙◌}
use mathlib.Core.Bool.{Bool, true, false, not, cond}
use borrow.Author.Tests.{le-ltb}
use lib.Dec.{eqb}
use lib.ListN.{get_or, get_or-eq_default}
use mir.Val.{bool_byte}
use Rattle.sense_log.specs.Log.{standing}
use Rattle.sense_log.proofs.Standing.{standing_none}
use Rattle.log_writer.proofs.store.standing_at.Goals as goal
use Rattle.log_writer.proofs.store.standing_at.Goals.{then-g-changed, else-g-changed}

-- a test told as a bit
told : (none : Bool) → bool_byte (not none) ≡ cond none 0 1
told true = refl
told false = refl

pub returns : goal.returns
unfolding standing
returns c =
    let changed = c.args.changed.now in
    let g = c.args.g in
    elim c.if-g-changed.branch [
      | then-g-changed w ↦ ap bool_byte w.result-is ∙ told (eqb (get_or changed g 0) 0)
      | else-g-changed w ↦ ap bool_byte (w.result-is ∙ le-ltb _ _ w.if-g-changed.false)
          ∙ sym (standing_none (get_or changed g 0) (get_or-eq_default changed 0 {n = g} w.if-g-changed.false))
    ]
