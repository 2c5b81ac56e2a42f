-- `arrangement::Way::arrange_bits` meets its contract. The loop's invariant: the bits from `k` on are gathered.
-- Assumes nothing.
use mathlib.Core.Path.{◌≡◌, sym, ap, subst, ◌∙◌}
use mathlib.Core.List.{List}
use Prim.Native.Nat.{ℕ, suc, ◌+◌, ◌*◌, ◌^◌, ◌<◌, ◌-◌}
use native.Mathlib.Omega.{arith}
use lib.ListN.{get_or, drop_of_length-le}
use Rattle.register.specs.Bit.{bit, bits_of, of_bits}
use Rattle.register.proofs.Bit.{get_or_bits_of, of_bits_lt, of_bits_drop, of_bits_drop_le}
use Rattle.track_order.specs.Order.{arranged_map}
use Rattle.track_order.proofs.Order.{length_arranged, get_or_arranged}
use Rattle.track_order.proofs.Restored.{arranged_digits}
use Rattle.arrangement.proofs.Way.arrange_bits.Invariants.{taken, gathered}
use Rattle.arrangement.proofs.Way.arrange_bits.Goals as goal

module _ (way : List ℕ) (map : ℕ) where
  gathered_none : gathered way map 9 ≡ 0
  unfolding gathered of_bits
  gathered_none = ap of_bits (drop_of_length-le (taken way map) {i = 9} (omega (arith, length_arranged way (bits_of 9 map))))

  gathered_more : (k : ℕ) → k < 9 → get_or way k 0 < 9 → gathered way map k ≡ bit (get_or way k 0) map + 2 * gathered way map (suc k)
  unfolding gathered
  gathered_more k h below =
      of_bits_drop (taken way map) k (omega (arith, length_arranged way (bits_of 9 map)))
      ∙ ap (λ (b : ℕ). b + 2 * gathered way map (suc k)) (get_or_arranged way (bits_of 9 map) k h ∙ get_or_bits_of 9 map (get_or way k 0) below)

  gathered_lt : (k : ℕ) → gathered way map k < 512
  unfolding gathered
  gathered_lt k =
      let all : of_bits (taken way map) < 512 =
      subst (λ (n : ℕ). of_bits (taken way map) < 2 ^ n) (length_arranged way (bits_of 9 map)) (of_bits_lt (taken way map) (arranged_digits way map)) in
      omega (arith, of_bits_drop_le (taken way map) k)

pub loop-k-init : goal.loop-k-init
loop-k-init c = sym (gathered_none _ _)

pub overflow_mul-moved : goal.overflow_mul-moved
overflow_mul-moved c = omega (arith, gathered_lt c.args.self.now c.args.map c.loop-k.k)

pub overflow_add-moved : goal.overflow_add-moved
overflow_add-moved c = omega (arith, gathered_lt c.args.self.now c.args.map c.loop-k.k)

pub loop-k-preserved : goal.loop-k-preserved
unfolding bit
loop-k-preserved c =
    let at = c.loop-k in
    let way = c.args.self.now in
    let map = c.args.map in
    let below = c.self.invariant.below (at.k - 1) (omega arith) in
    let taken_bit : bit (get_or c.self.inside.places (at.k - 1) 0) map ≡ bit (get_or way (at.k - 1) 0) map =
    ap (λ (w : List ℕ). bit (get_or w (at.k - 1) 0) map) c.self.view_is in
    let next : suc (at.k - 1) ≡ at.k = omega arith in
    let more : gathered way map (at.k - 1) ≡ bit (get_or way (at.k - 1) 0) map + 2 * gathered way map at.k =
    gathered_more way map (at.k - 1) (omega arith) (rw c.self.view_is at below)
    ∙ ap (λ (k : ℕ). bit (get_or way (at.k - 1) 0) map + 2 * gathered way map k) next in
    omega (arith, at.invariant, taken_bit, more)

pub returns : goal.returns
unfolding gathered arranged_map
returns c = c.loop-k.invariant ∙ ap (gathered c.args.self.now c.args.map) {y = 0} (omega arith)
