-- `scan6250::corrected::unpack` meets its contract. The loop's invariant: the first `k` bytes are stored.
-- Assumes nothing.
use mathlib.Core.Path.{◌≡◌}
use Rattle.indexed.proofs.Front.{front}
use Rattle.rectangular.specs.Group.{information_of}
use Rattle.group6250.specs.Packed.{byte_at}
use Rattle.scan6250.proofs.corrected.unpack.Given as goal

abbrev pub invariant-loop-k : goal.invariant-loop-k
invariant-loop-k l = l.bytes ≡ front l.k (information_of 8 (λ j. byte_at j l.tracks)) l.initial.bytes
