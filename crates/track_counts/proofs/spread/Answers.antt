-- `track_counts::spread` meets its contract, by computing it for each of 32 numbers.
-- Assumes nothing.
use mathlib.Core.Path.{◌≡◌}
use Prim.Native.Nat.{ℕ, ◌*◌, ◌<◌}
use lib.Bits.{bit_and}
use Rattle.indexed.proofs.Test.{equal}
use Rattle.register.specs.Bit.{bit}
use Rattle.track_counts.specs.Counts.{packed}
use Rattle.track_counts.proofs.spread.Goals as goal

spreads : (bits : ℕ) → bits < 32 → bit_and (bits * 0x100200400801) 0x1001001001001 ≡ packed (λ k. bit k bits)
unfolding bit
spreads = equal 32 (λ bits. bit_and (bits * 0x100200400801) 0x1001001001001) (λ bits. packed (λ k. bit k bits)) tt

pub returns : goal.returns
returns c = spreads c.args.bits c.requires
