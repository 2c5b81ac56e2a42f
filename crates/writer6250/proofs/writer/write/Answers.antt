-- `writer6250::writer::write` meets its contract: the tests that led to a return say which row of the table holds, and the
-- last group completes the record.
-- Assumes nothing.
use mathlib.Core.Path.{ap, ◌∙◌}
use mathlib.Core.List.{List}
use Prim.Native.Nat.{ℕ, ◌+◌, ◌*◌, ◌/◌}
use native.Mathlib.Omega.{arith}
use borrow.Author.Rules.{rules}
use borrow.Author.Tests.{le-leb, lt-leb}
use lib.ListN.{length}
use Rattle.answer.specs.Answer.{told_refusal, output_after}
use Rattle.record6250.specs.Record.{groups_for, group_words}
use Rattle.record6250.specs.Tape.{numbers_from}
use Rattle.record6250.specs.Written.{write_answer}
use Rattle.terms.proofs.Terms.{with_terms, refused_with_terms}
use Rattle.terms.specs.Call.{write, answer_to, result_of}
use Rattle.terms.specs.Reading.{bpi6250, written_record}
use Rattle.writer6250.proofs.Stored.{one_more, one_stored, all_stored}
use Rattle.writer6250.proofs.writer.write.Goals as goal

pub returns-then-bytes-gt-MOST_DATA : goal.returns-then-bytes-gt-MOST_DATA
unfolding write_answer answer_to result_of written_record
returns-then-bytes-gt-MOST_DATA c =
    let refused = refused_with_terms _ _ (write bpi6250 c.args.bytes.now) _ _ (ap told_refusal c.into.ensures) (simp (lt-leb _ _ c.if-bytes-gt-MOST_DATA.true)) in record {
      answer = refused.0;
      output = refused.1.0;
      terms = refused.1.1;
    }

pub returns-then-words-full : goal.returns-then-words-full
unfolding write_answer groups_for answer_to result_of written_record
returns-then-words-full c =
    let bytes = c.args.bytes.now in
    let refused = refused_with_terms _ _ (write bpi6250 bytes) _ _ (ap told_refusal c.into-then-words-full.ensures)
    (simp (le-leb _ _ c.if-bytes-gt-MOST_DATA.false, lt-leb (9 * (length bytes / 7 + 1)) (length c.args.words.now) (omega arith))) in record {
      answer = refused.0;
      output = refused.1.0;
      terms = refused.1.1;
    }

pub returns : goal.returns
unfolding write_answer groups_for output_after answer_to result_of written_record
returns c =
    let bytes = c.args.bytes.now in
    let size = length bytes in
    let words = c.args.words.now in
    let last = c.last_group-last in
    let written = with_terms _ _ _ (write bpi6250 bytes)
    (simp (le-leb _ _ c.if-bytes-gt-MOST_DATA.false, le-leb (9 * (size / 7 + 1)) (length words) (omega arith)))
    (one_more bytes words (size / 7) _ _ (numbers_from (group_words last.result)) c.write_groups.ensures
    (ap (λ (l : List ℕ). numbers_from (group_words l)) last.ensures)
    (c.write_groups-2.ensures ∙ one_stored last.result _ (search rules))
    ∙ all_stored bytes words) in record {
      answer = written.0;
      output = written.1.0;
      terms = written.1.1;
    }
