-- `reading6250::received::illegal_tracks` meets its contract. The loop's invariant: the marks of the first `k` words are gathered.
-- Assumes nothing.
use mathlib.Core.Path.{◌≡◌}
use Rattle.indexed.specs.List.{tabulate}
use Rattle.register.specs.Bit.{of_bits}
use Rattle.reading6250.proofs.Receiving.{word_at, mark}
use Rattle.reading6250.proofs.received.illegal_tracks.Given as goal

abbrev pub invariant-loop-k : goal.invariant-loop-k
invariant-loop-k l = l.illegal ≡ of_bits (tabulate l.k (mark (word_at l.backward l.words l.at)))
