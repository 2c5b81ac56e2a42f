-- `marks::marks::Runs::is_right` meets its contract. The loop's invariant: the characters passed are as they were delivered.
-- Assumes nothing.
use Rattle.std.proofs.Common.{ℕ, ◌<◌, sym, ◌∙◌, arith}
use Rattle.indexed.proofs.Test.{all_true, all_false}
use Rattle.marks.specs.Marks.{run_right}
use Rattle.marks.proofs.marks.Runs.is_right.Goals as goal

pub returns-then-not-is_right_at : goal.returns-then-not-is_right_at
unfolding run_right
returns-then-not-is_right_at c =
    let count = c.run_length-k-end in
    rw (← count.ensures.length)
    (sym (all_false count.result _ c.loop-k.k c.loop-k-test.true (sym c.is_right_at.ensures ∙ c.if-not-is_right_at.true)))

pub returns : goal.returns
unfolding run_right
returns c =
    let count = c.run_length-k-end in
    rw (← count.ensures.length)
    (sym (all_true count.result _ (λ (j : ℕ) (h : j < count.result). c.loop-k.invariant j (omega arith))))
