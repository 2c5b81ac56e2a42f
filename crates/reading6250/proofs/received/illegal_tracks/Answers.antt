-- `reading6250::received::illegal_tracks` meets its contract. The loop's invariant: the marks of the first `k` words are gathered.
-- Assumes nothing.
use mathlib.Core.Path.{◌≡◌, refl, ◌∙◌}
use native.Mathlib.Omega.{arith}
use Rattle.indexed.specs.List.{tabulate, tabulate_from}
use Rattle.register.specs.Bit.{of_bits}
use Rattle.reading6250.proofs.Receiving.{words_at, mark_there, marks_fit, more_marks, all_marks}
use Rattle.reading6250.proofs.received.illegal_tracks.Goals as goal

pub loop-k-init : goal.loop-k-init
unfolding of_bits tabulate tabulate_from
loop-k-init c = refl

pub loop-k-preserved : goal.loop-k-preserved
loop-k-preserved c =
    more_marks _ c.loop-k-test.true c.loop-k.invariant (mark_there _ c.readings-table.ensures (c.requires.1 _))

pub overflow_add-illegal : goal.overflow_add-illegal
overflow_add-illegal c = record { fits = rw (loop-k-preserved c) (marks_fit _ _ (omega arith)) }

pub returns : goal.returns
returns c =
    let all : c.loop-k.k ≡ 9 = omega arith in
    let args = c.args in
    (rw all at c.loop-k.invariant) ∙ all_marks _ _ (words_at args.backward args.words.now args.at)
