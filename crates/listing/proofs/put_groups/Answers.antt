-- `listing::put_groups` meets its contract: the text grows group by group.
-- Assumes nothing.
use mathlib.Core.Path.{sym}
use Prim.Native.Nat.{◌*◌}
use Rattle.rectangular.specs.Constants.{numbers_per_group}
use Rattle.listing.proofs.Lines.{blocks_none, blocks_more, group_at}
use Rattle.listing.proofs.put_groups.Goals as goal

pub loop-g-init : goal.loop-g-init
loop-g-init c = blocks_none _ _

pub loop-g-preserved : goal.loop-g-preserved
loop-g-preserved c =
    let l = c.loop-g in
    blocks_more l.g _ c.args.page.now _ _ l.invariant (rw (sym (group_at c.args.words.now (numbers_per_group * l.g))) c.put_group.ensures)
