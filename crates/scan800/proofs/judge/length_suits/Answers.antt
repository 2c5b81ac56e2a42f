-- `scan800::judge::length_suits` meets its contract.
-- Assumes nothing.
use mathlib.Core.Path.{sym, ap, ◌∙◌}
use mathlib.Core.Bool.{Bool, ◌&&◌}
use borrow.Author.Tests.{le-leb, lt-leb}
use lib.Dec.{leb}
use Rattle.record800.specs.Read.{length_suits}
use Rattle.scan800.proofs.judge.length_suits.Goals as goal

pub returns-then-count-ge-LEAST_LENGTH : goal.returns-then-count-ge-LEAST_LENGTH
unfolding length_suits
returns-then-count-ge-LEAST_LENGTH c =
    let count = c.args.count in
    sym (ap (λ (b : Bool). b && leb count 2050) (le-leb 3 count c.if-count-ge-LEAST_LENGTH.true))

pub returns-else-count-ge-LEAST_LENGTH : goal.returns-else-count-ge-LEAST_LENGTH
unfolding length_suits
returns-else-count-ge-LEAST_LENGTH c =
    let count = c.args.count in
    let short = lt-leb 3 count c.if-count-ge-LEAST_LENGTH.false in
    short ∙ sym (ap (λ (b : Bool). b && leb count 2050) short)
