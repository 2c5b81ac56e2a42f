-- `scan6250::gather::gather` meets its contract. The loop's invariant: the groups before the walker's fit, their bytes and the maps of
-- their changed tracks are stored, and their changed words are counted.
-- Assumes nothing.
use mathlib.Core.Path.{◌≡◌}
use Prim.Native.Nat.{◌-◌, ◌≤◌}
use lib.ListN.{length}
use Rattle.record6250.specs.Read.{changed_tracks}
use Rattle.register.proofs.Counts.{first_bits}
use Rattle.track_counts.specs.Counts.{Holds}
use Rattle.scan6250.specs.Told.{bytes_gathered, maps_gathered}
use Rattle.scan6250.proofs.Scanned.{AllFit}
use Rattle.scan6250.proofs.gather.gather.Given as goal

abbrev pub invariant-loop-walker : goal.invariant-loop-walker
invariant-loop-walker l =
    (l.walker.group ≤ length l.reading.maps.now) × (l.walker.words ≡ l.reading.words)
    × AllFit l.reading.backward l.reading.words.now l.reading.maps.now l.walker.group
    × Holds l.counts (first_bits (changed_tracks l.reading.backward l.reading.words.now l.reading.maps.now) l.walker.group)
    × (l.body ≡ bytes_gathered l.reading.backward l.reading.words.now l.reading.maps.now l.walker.group l.initial.body)
    × (l.changed ≡ maps_gathered l.reading.backward l.reading.words.now l.reading.maps.now l.walker.group l.initial.changed)

abbrev pub decreases-loop-walker : goal.decreases-loop-walker
decreases-loop-walker l = length l.reading.maps.now - l.walker.group
