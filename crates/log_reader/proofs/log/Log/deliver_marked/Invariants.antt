-- `log_reader::log::Log::deliver_marked` meets its contract. The loop's invariant: the maps of the first g groups are stored, and `at` is behind
-- those of the maps in the log that they took; and their marks are counted.
-- Assumes nothing.
use mathlib.Core.Path.{◌≡◌}
use mathlib.Core.List.{◌++◌}
use Prim.Native.Nat.{◌+◌, ◌*◌}
use lib.ListN.{drop}
use Rattle.indexed.specs.List.{tabulate}
use Rattle.register.proofs.Counts.{first_bits}
use Rattle.track_counts.specs.Counts.{Holds}
use Rattle.sense_log.specs.Back.{standing_bits, map_back}
use Rattle.sense_log.specs.Log.{bit_map_length}
use Rattle.log_reader.proofs.log.Log.deliver_marked.Given as goal

abbrev pub invariant-loop-g : goal.invariant-loop-g
invariant-loop-g l = record {
  behind : l.at ≡ bit_map_length l.self.groups + 2 * standing_bits l.self.bytes.now l.g;
  stored : l.maps ≡ tabulate l.g (map_back l.self.groups l.self.bytes.now) ++ drop l.g l.initial.maps;
  counted : Holds l.marks (first_bits (map_back l.self.groups l.self.bytes.now) l.g);
}
