-- `bench::picture::Picture::gather` meets its contract. The loop's invariant: the first k marks stand at the front.
-- Assumes nothing.
use Rattle.std.proofs.Common.{◌≡◌, length}
use Rattle.indexed.proofs.Front.{front}
use Rattle.bench.specs.Picture.{row_of}
use Rattle.bench.proofs.picture.Picture.gather.Given as goal

abbrev pub invariant-loop-k : goal.invariant-loop-k
invariant-loop-k l = record {
  kept : length l.row ≡ length l.initial.row;
  gathered : l.row ≡ front l.k (row_of l.self.marks.now l.track l.from l.count) l.initial.row;
}
