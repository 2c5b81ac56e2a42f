-- `group6250::group::written` meets its contract: the packed group is the group.
-- Assumes nothing.
use Rattle.group6250.specs.Packed.{values_of}
use Rattle.group6250.proofs.Packed.{packed_is_group}
use Rattle.group6250.proofs.group.written.Goals as goal

pub returns : goal.returns
unfolding values_of
returns c = packed_is_group _ _ _ c.tracks-tracks.ensures c.parity.ensures
