-- `track_counts::Counts::sum` meets its contract.
-- Assumes nothing.
use mathlib.Core.Path.{ap₂, ◌∙◌}
use Prim.Native.Nat.{ℕ, ◌+◌, ◌%◌}
use Rattle.track_counts.proofs.Packed.{sums_told}
use Rattle.track_counts.proofs.Counts.sum.Goals as goal

pub returns : goal.returns
returns c f holds low high = ap₂ (λ (x y : ℕ). x % 4095 + y % 4095) holds.lower holds.upper ∙ sums_told f low high
