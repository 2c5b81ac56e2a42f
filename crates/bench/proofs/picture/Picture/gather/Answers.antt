-- `bench::picture::Picture::gather` meets its contract. The loop's invariant: the first k marks stand at the front.
-- Assumes nothing.
use Rattle.std.proofs.Common.{◌+◌, ◌*◌, refl, ◌∙◌, get_or, length-set, arith}
use Rattle.rectangular.specs.Constants.{tracks}
use Rattle.bench.specs.Picture.{row_of}
use Rattle.indexed.proofs.Front.{filled_more, filled_all}
use Rattle.bench.proofs.picture.Picture.gather.Goals as goal

pub loop-k-preserved : goal.loop-k-preserved
unfolding row_of
loop-k-preserved c =
    let l = c.loop-k in
    let args = c.args in record {
      kept = length-set l.row l.k _ ∙ l.invariant.kept;
      gathered = filled_more args.count (λ j. get_or args.self.now.marks.now (tracks * (args.from + j) + args.track) 0) args.row.now l.row l.k _ l.invariant.gathered
          refl c.loop-k-test.true (omega arith);
    }

pub returns : goal.returns
unfolding row_of
returns c =
    let l = c.loop-k in
    let args = c.args in
    filled_all args.count (λ j. get_or args.self.now.marks.now (tracks * (args.from + j) + args.track) 0) args.row.now l.row l.k l.invariant.gathered (omega arith)
