-- The loop of `group6250::group::tracks`: the first k look-ups are added.
-- Assumes nothing.
use mathlib.Core.Path.{◌≡◌}
use Rattle.group6250.proofs.Generator.{added_by}
use Rattle.group6250.proofs.group.tracks.Given as goal

abbrev pub invariant-loop-k : goal.invariant-loop-k
invariant-loop-k l = l.sum ≡ added_by l.bytes l.k
