-- `marks::marks::group_marks` meets its contract.
-- Assumes nothing.
use Rattle.std.proofs.Common.{◌*◌, ◌/◌, ◌%◌, length, rules, arith}
use Rattle.rectangular.specs.Constants.{tracks}
use Rattle.marks.specs.Marks.{group_mark, group_marks}
use Rattle.marks.proofs.Marked.{tabulated}
use Rattle.marks.proofs.marks.group_marks.Goals as goal

pub returns : goal.returns
unfolding group_marks
returns c =
    let args = c.args in
    let put = c.put_marks.ensures in
    tabulated (tracks * length args.maps.now) (λ i. group_mark args.view args.words.now args.maps.now args.right.now (i / tracks) (i % tracks))
    args.marks.now _ (omega arith) put.length (λ k h. let m = put.front k h in search rules) put.behind
