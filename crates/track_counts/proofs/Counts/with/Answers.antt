-- `track_counts::Counts::with` meets its contract: five bits are added at once.
-- Assumes nothing.
use mathlib.Core.Path.{sym, ap, ◌∙◌}
use Prim.Native.Nat.{ℕ, ◌+◌}
use native.Mathlib.Nat.{add-zero}
use Rattle.register.specs.Bit.{bit}
use Rattle.register.proofs.Expand.{bit_of_zero}
use Rattle.track_counts.proofs.Packed.{holds_same, holds_more, room_for_bits}
use Rattle.track_counts.proofs.Counts.with.Goals as goal

-- a map of no track has no bit
pub returns-then-map-eq0 : goal.returns-then-map-eq0
returns-then-map-eq0 c f holds =
    holds_same _ f _ (λ k. sym (ap (λ (b : ℕ). f k + b) (ap (bit k) c.if-map-eq0.true ∙ bit_of_zero k) ∙ add-zero (f k))) holds

pub overflow_add-result : goal.overflow_add-result
overflow_add-result c = record { fits = rw c.spread.ensures (room_for_bits _ _ c.requires.lower) }

pub overflow_add-result-2 : goal.overflow_add-result-2
overflow_add-result-2 c = record { fits = rw c.spread-2.ensures (room_for_bits _ _ c.requires.upper) }

pub returns : goal.returns
returns c f holds =
    let more = holds_more _ f _ _ _ holds c.spread.ensures c.spread-2.ensures in
    record { lower = more.0; upper = more.1 }
