-- `arrangement::Way::arrange_bits` meets its contract. The loop's invariant: the bits from `k` on are gathered.
-- Assumes nothing.
use mathlib.Core.Path.{◌≡◌}
use mathlib.Core.List.{List}
use Prim.Native.Nat.{ℕ}
use lib.ListN.{drop}
use Rattle.register.specs.Bit.{bits_of, of_bits}
use Rattle.track_order.specs.Order.{arranged}
use Rattle.arrangement.proofs.Way.arrange_bits.Given as goal

module _ (way : List ℕ) (map : ℕ) where
  -- the nine bits as the way takes them, and the number that those from k on make
  abbrev pub taken : List ℕ
  taken = arranged way (bits_of 9 map)

  unfoldable pub gathered : ℕ → ℕ
  gathered k = of_bits (drop k taken)

abbrev pub invariant-loop-k : goal.invariant-loop-k
invariant-loop-k l = l.moved ≡ gathered l.self l.map l.k
