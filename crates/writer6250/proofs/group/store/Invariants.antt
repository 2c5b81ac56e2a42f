-- `writer6250::group::store` meets its contract. The loop's invariant: the words from place `j` on are stored.
-- Assumes nothing.
use mathlib.Core.Path.{◌≡◌}
use mathlib.Core.List.{◌++◌}
use lib.ListN.{drop}
use Rattle.indexed.proofs.Front.{front}
use Rattle.writer6250.proofs.Words.{coded}
use Rattle.writer6250.proofs.group.store.Given as goal

abbrev pub invariant-loop-j : goal.invariant-loop-j
invariant-loop-j l = l.words ≡ front l.j l.initial.words (coded l.recorded ++ drop 9 l.initial.words)
