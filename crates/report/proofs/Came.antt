-- What stands in front of an input.
-- Assumes nothing.
use Prim.Native.Nat.{ℕ, ◌+◌, ◌*◌, ◌<◌}
use mathlib.Core.Path.{◌≡◌, ap₂}
use mathlib.Core.List.{List, ◌++◌}
use native.Mathlib.Omega.{arith}
use lib.ListN.{length, get_or-append}
use Rattle.sense_log.specs.Pair.{pair_at}

-- what stands in front does not depend on what comes behind
pub pair_in_front : (front behind : List ℕ) (at : ℕ) → at + 1 < length front → pair_at (front ++ behind) at ≡ pair_at front at
pair_in_front front behind at h =
    ap₂ (λ (low high : ℕ). low + 256 * high) (get_or-append front behind 0 at (omega arith)) (get_or-append front behind 0 (at + 1) h)
