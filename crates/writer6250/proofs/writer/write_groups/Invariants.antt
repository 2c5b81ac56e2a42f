-- `writer6250::writer::write_groups` meets its contract. The loop's invariant: the first `g` groups are stored.
-- Assumes nothing.
use mathlib.Core.Path.{◌≡◌}
use Rattle.writer6250.specs.Stored.{groups_stored}
use Rattle.writer6250.proofs.writer.write_groups.Given as goal

abbrev pub invariant-loop-g : goal.invariant-loop-g
invariant-loop-g l = l.words ≡ groups_stored l.g l.bytes l.initial.words
