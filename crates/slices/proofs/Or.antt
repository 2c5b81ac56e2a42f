-- No value of a list is above the bits that stand in any of its values, and these are below a power of two that all values are below.
-- Assumes nothing.
use mathlib.Core.Path.{◌≡◌}
use mathlib.Core.List.{List}
use Prim.Native.Nat.{ℕ, zero, suc, ◌^◌, ◌<◌, ◌≤◌}
use native.Mathlib.Decide.{dec_lt}
use native.Mathlib.Nat.{le_trans, lt_of_le_of_lt, not-suc-le-zero}
use native.Mathlib.Omega.{arith}
use lib.Bits.{bit_or, or_add_and, and_le_l, and_le_r, or_lt}
use lib.Pow.{pow_pos}
use lib.ListN.{length, get_or}
use Rattle.slices.specs.Union.{union_to, union_of}

or_above : (a b : ℕ) → (a ≤ bit_or a b) × (b ≤ bit_or a b)
or_above a b = (omega (arith, or_add_and a b, and_le_r a b), omega (arith, or_add_and a b, and_le_l a b))

in_union : (values : List ℕ) (n k : ℕ) → k < n → get_or values k 0 ≤ union_to n values
unfolding union_to
in_union values zero k h = absurd (not-suc-le-zero h)
in_union values (suc n) k h = by (dec_lt k n) (in_union values n k)
  where
    by : Dec (k < n) → (k < n → get_or values k 0 ≤ union_to n values) → get_or values k 0 ≤ bit_or (union_to n values) (get_or values n 0)
    by (yes b) ih = le_trans (ih b) (or_above (union_to n values) (get_or values n 0)).0
    by (no b) ih = let e : k ≡ n = omega arith in rw e (or_above (union_to n values) (get_or values n 0)).1

pub below_union : (values : List ℕ) (limit : ℕ) → union_of values < limit → (k : ℕ) → k < length values → get_or values k 0 < limit
unfolding union_of
below_union values limit h k b = lt_of_le_of_lt (in_union values (length values) k b) h

union_to_below : (values : List ℕ) (w n : ℕ) → ((k : ℕ) → k < n → get_or values k 0 < 2 ^ w) → union_to n values < 2 ^ w
unfolding union_to
union_to_below values w zero small = pow_pos w
union_to_below values w (suc n) small = or_lt w (union_to n values) (get_or values n 0) (union_to_below values w n (λ k h. small k (omega arith))) (small n (omega arith))

pub union_below : (values : List ℕ) (w : ℕ) → ((k : ℕ) → k < length values → get_or values k 0 < 2 ^ w) → union_of values < 2 ^ w
unfolding union_of
union_below values w small = union_to_below values w (length values) small
