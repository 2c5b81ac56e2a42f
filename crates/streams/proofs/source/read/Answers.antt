-- `streams::source::read` meets its contract: a read gives one byte at least, and no more than there was space for.
-- Assumes nothing.
use Prim.Native.Nat.{◌-◌}
use mathlib.Core.Path.{◌∙◌}
use native.Mathlib.Omega.{arith}
use lib.ListN.{length}
use borrow.Rule.Slice.PartMut.{same_len_mid}
use Rattle.streams.proofs.Known.{read_more}
use Rattle.streams.proofs.source.read.Goals as goal

pub loop-count-preserved : goal.loop-count-preserved
loop-count-preserved g c =
    let l = c.loop-count in
    let some = c.read_once in
    let more = c.in_ok-more in
    let room = length l.space - l.count in
    let same = same_len_mid l.count room l.space some.new.space some.auto.space in (
      omega (arith, more.ensures.within.0, same, some.auto.space, l.invariant.0),
      same ∙ l.invariant.1,
      read_more l.count room more.more l.space some.new.space _ _ _ l.invariant.0 more.ensures.within.0 l.invariant.2 more.ensures.bytes.0,
    )
