-- A number in two bytes, low one first, as a log holds its maps.
-- Assumes nothing.
use Rattle.std.specs.Prelude.{ℕ, ◌+◌, ◌*◌, List, get_or}

-- the number whose two bytes stand from an index on
abbrev pub pair_at : List ℕ → ℕ → ℕ
pair_at bytes at = get_or bytes at 0 + 256 * get_or bytes (at + 1) 0
