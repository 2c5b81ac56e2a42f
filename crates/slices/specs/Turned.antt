-- The places of elements that come last first (document 01, "Backward": groups, maps and characters).
-- Assumes nothing.
use Rattle.std.specs.Prelude.{ℕ, ◌-◌, Bool, cond}

-- the place of element k among n that come last first, or as they are
unfoldable pub turned_place : Bool → ℕ → ℕ → ℕ
turned_place backward n k = cond backward (n - 1 - k) k
