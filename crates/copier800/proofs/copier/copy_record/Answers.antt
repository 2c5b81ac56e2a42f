-- `copier800::copier::copy_record` meets its contract: a record fits into the array that it takes.
-- Assumes nothing.
use native.Mathlib.Omega.{arith}
use borrow.Author.Tests.{leb-true}
use lib.Dec.{leb}
use lib.ListN.{length}
use Rattle.indexed.proofs.Test.{both_true}
use Rattle.record800.specs.Read.{length_suits}
use Rattle.terms.proofs.Terms.{with_terms}
use Rattle.terms.specs.Call.{copy, answer_to, result_of}
use Rattle.copier800.proofs.copier.copy_record.Goals as goal

pub copy_through-requires-else-data_length-le-SHORT-clause-enough : goal.copy_through-requires-else-data_length-le-SHORT-clause-enough
unfolding length_suits
copy_through-requires-else-data_length-le-SHORT-clause-enough c suits =
    let count = length c.args.characters.now in
    omega (arith, leb-true count 2050 (both_true (leb 3 count) (leb count 2050) suits).1)

pub returns-then-data_length-le-SHORT-clause-terms : goal.returns-then-data_length-le-SHORT-clause-terms
unfolding answer_to result_of
returns-then-data_length-le-SHORT-clause-terms c =
    let copied = c.copy_through.ensures in
    (with_terms _ _ _ (copy c.args.backward c.args.characters.now) copied.answer copied.output).1.1

pub returns-else-data_length-le-SHORT-clause-terms : goal.returns-else-data_length-le-SHORT-clause-terms
unfolding answer_to result_of
returns-else-data_length-le-SHORT-clause-terms c =
    let copied = c.copy_through-else-data_length-le-SHORT.ensures in
    (with_terms _ _ _ (copy c.args.backward c.args.characters.now) copied.answer copied.output).1.1
