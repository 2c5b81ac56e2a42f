-- `arrangement::Way::arrange` meets its contract. The loop's invariant: the first `k` words are arranged, and behind them the
-- target is as it was.
-- Assumes nothing.
use mathlib.Core.Path.{sym, ap, ap₂, ◌∙◌}
use mathlib.Core.List.{List}
use Prim.Native.Nat.{ℕ}
use native.Mathlib.Omega.{arith}
use lib.ListN.{set, get_or, length-set}
use Rattle.indexed.proofs.Front.{front, front_more, front_all}
use Rattle.track_order.specs.Order.{arranged}
use Rattle.track_order.proofs.Order.{length_arranged, get_or_arranged}
use Rattle.arrangement.proofs.Way.arrange.Goals as goal

pub loop-k-preserved : goal.loop-k-preserved
loop-k-preserved c =
    let at = c.loop-k in
    let args = c.args in
    let moved : List ℕ = arranged args.self.now args.source.now in (
      length-set at.target at.k _ ∙ at.invariant.0,
      ap₂ (λ (l : List ℕ) (w : ℕ). set l at.k w) at.invariant.1
          (ap (λ (way : List ℕ). get_or args.source.now (get_or way at.k 0) 0) c.self.view_is
          ∙ sym (get_or_arranged args.self.now args.source.now at.k (omega arith)))
          ∙ front_more at.k moved args.target.now 0 (omega (arith, length_arranged args.self.now args.source.now)) (omega arith),
    )

pub returns : goal.returns
returns c =
    let args = c.args in
    let moved : List ℕ = arranged args.self.now args.source.now in
    c.loop-k.invariant.1
    ∙ ap (λ (k : ℕ). front k moved args.target.now) {y = 9} (omega arith)
    ∙ front_all 9 moved args.target.now (sym (length_arranged args.self.now args.source.now))
