-- A log on numerals, as request 2.1 has it: group 0 in bit 0 of the first byte, and the low byte of each map first. The laws of writing and
-- reading back would hold of other orders too.
-- Assumes nothing.
use mathlib.Core.Path.{◌≡◌, refl}
use mathlib.Core.List.{[], ◌∷◌}
use Rattle.indexed.specs.List.{tabulate, tabulate_from, blocks}
use Rattle.register.specs.Bit.{of_bits}
use Rattle.sense_log.specs.Log.{standing, bit_map_byte, bit_map, map_bytes, log_of}

pub nine_groups : log_of (0 ∷ 6 ∷ 0 ∷ 0 ∷ 0 ∷ 0 ∷ 0 ∷ 0 ∷ 511 ∷ []) ≡ 2 ∷ 1 ∷ 6 ∷ 0 ∷ 255 ∷ 1 ∷ []
unfolding log_of bit_map bit_map_byte standing map_bytes of_bits tabulate tabulate_from blocks
nine_groups = refl
