-- `marks::marks::run_marks` meets its contract.
-- Assumes nothing.
use Rattle.std.proofs.Common.{◌*◌, ◌/◌, ◌%◌, rules, arith}
use Rattle.rectangular.specs.Constants.{tracks}
use Rattle.marks.specs.Marks.{run_mark, run_marks}
use Rattle.marks.proofs.Marked.{tabulated}
use Rattle.marks.proofs.marks.run_marks.Goals as goal

pub returns : goal.returns
unfolding run_marks
returns c =
    let args = c.args in
    let put = c.put_marks.ensures in
    tabulated (tracks * args.columns) (λ i. run_mark args.view args.characters.now args.right.now (i / tracks) (i % tracks))
    args.marks.now _ (omega arith) put.length (λ k h. let m = put.front k h in search rules) put.behind
