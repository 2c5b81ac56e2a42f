-- `bench::reading::store_group` meets its contract.
-- Assumes nothing.
use Rattle.std.proofs.Common.{◌≡◌, ◌*◌, length, take, length-take-le, arith}
use borrow.Author.Tests.{ne_eqb}
use Rattle.rectangular.specs.Constants.{numbers_per_group}
use Rattle.bench.proofs.Stored.{stored_part}
use Rattle.bench.proofs.reading.store_group.Goals as goal

pub returns-clause-words : goal.returns-clause-words
returns-clause-words c =
    let args = c.args in
    let size : length (take numbers_per_group args.row.now) ≡ numbers_per_group = length-take-le _ _ (omega arith) in
    simp (ne_eqb _ _ c.if-numbers-eq0.false, ne_eqb _ _ c.if-stored-maps.false)
    (stored_part (numbers_per_group * args.stored) _ args.words.now _ (take numbers_per_group args.row.now) c.copy_from_slice.ensures.after (omega arith) (omega arith))
