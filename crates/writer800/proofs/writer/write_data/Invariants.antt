-- `writer800::writer::write_data` meets its contract. The loop's invariant: the first characters are stored and summed.
-- Assumes nothing.
use mathlib.Core.Path.{◌≡◌}
use mathlib.Core.List.{map}
use lib.ListN.{length, get_or}
use Rattle.indexed.proofs.Front.{front}
use Rattle.register.specs.Sum.{xor_sum}
use Rattle.record800.specs.Record.{character_of, check_sum}
use Rattle.writer800.proofs.writer.write_data.Given as goal

abbrev pub invariant-loop-k : goal.invariant-loop-k
invariant-loop-k l = (length l.characters ≡ length l.initial.characters) × (l.characters ≡ front l.k (map character_of l.bytes) l.initial.characters)
    × (l.check ≡ check_sum l.k (λ i. character_of (get_or l.bytes i 0))) × (l.longitudinal ≡ xor_sum l.k (λ i. character_of (get_or l.bytes i 0)))
