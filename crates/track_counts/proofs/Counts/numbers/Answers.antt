-- `track_counts::Counts::numbers` meets its contract: where both numbers are zero, each part of them is, and else each is taken out.
-- Assumes nothing.
use mathlib.Core.Path.{sym, ap₂}
use mathlib.Core.List.{◌++◌}
use Prim.Native.Nat.{ℕ}
use native.Mathlib.Omega.{arith}
use lib.ListN.{take}
use lib.Seq.{ext_get_or}
use Rattle.track_counts.specs.Counts.{fields}
use Rattle.track_counts.proofs.Counts.numbers.Goals as goal

pub returns-then-self-eq0-2 : goal.returns-then-self-eq0-2
returns-then-self-eq0-2 c = sym (ap₂ (λ (low high : ℕ). fields low ++ take 4 (fields high)) c.if-self-eq0.true c.if-self-eq0-2.true)

pub returns : goal.returns
returns c = let at = c.loop-track in ext_get_or 0 at.number-items _ at.invariant.0 (λ k h. at.invariant.1 k (omega (arith, at.invariant.0)))
