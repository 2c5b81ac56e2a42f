-- `reading6250::received::receive` meets its contract. The loop's invariant: the first `k` words are gathered, and none of them is
-- illegal if their readings together are below 256.
-- Assumes nothing.
use mathlib.Core.Path.{◌≡◌}
use Prim.Native.Nat.{ℕ, ◌+◌, ◌<◌}
use Rattle.indexed.specs.List.{tabulate}
use Rattle.register.specs.Bit.{of_bits}
use Rattle.group_code.specs.Word.{value_of}
use Rattle.reading6250.proofs.Packing.{packed}
use Rattle.reading6250.proofs.Receiving.{word_at, low, mark}
use Rattle.reading6250.proofs.received.receive.Given as goal

abbrev pub invariant-loop-k : goal.invariant-loop-k
invariant-loop-k l =
    (l.tracks ≡ packed 8 l.k (low (word_at l.backward l.words l.at))) × ((j : ℕ) → j + 1 ≡ l.k → l.parity ≡ value_of (word_at l.backward l.words l.at j))
    × (l.seen < 256 → of_bits (tabulate l.k (mark (word_at l.backward l.words l.at))) ≡ 0)
