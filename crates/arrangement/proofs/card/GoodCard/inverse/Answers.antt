-- `arrangement::card::GoodCard::inverse` meets its contract. The loop's invariant: the places of the first `k` tracks are found.
-- Assumes nothing.
use mathlib.Core.Path.{◌≡◌, sym, subst}
use Prim.Native.Nat.{ℕ}
use native.Mathlib.Omega.{arith}
use Rattle.track_order.specs.Order.{Permutation}
use Rattle.track_order.proofs.Order.{inverse_permutation}
use Rattle.arrangement.proofs.Found.{Found, found_more, found_all}
use Rattle.arrangement.proofs.card.GoodCard.inverse.Goals as goal

pub loop-k-preserved : goal.loop-k-preserved
loop-k-preserved c =
    let at = c.loop-k in
    rw c.across.ensures.place (found_more _ (rw c.self.view_is at c.self.invariant) at.k at.places c.loop-k-test.true at.invariant)

pub returns : goal.returns
returns c =
    let at = c.loop-k in
    let nine : at.k ≡ 9 = omega arith in
    found_all _ (rw c.self.view_is at c.self.invariant) at.places (subst (λ (k : ℕ). Found c.args.self.now k at.places) nine at.invariant)

pub invariant_of-result : goal.invariant_of-result
invariant_of-result c =
    let at = c.loop-k in
    let good = rw c.self.view_is at c.self.invariant in
    let nine : at.k ≡ 9 = omega arith in
    subst Permutation (sym (found_all _ good at.places (subst (λ (k : ℕ). Found c.args.self.now k at.places) nine at.invariant)))
    (inverse_permutation _ good)
