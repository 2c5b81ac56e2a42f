-- `writer800::writer::write` meets its contract.
-- Assumes nothing.
use mathlib.Core.Path.{sym, ap, ◌∙◌}
use mathlib.Core.List.{List}
use Prim.Native.Nat.{ℕ, ◌+◌, ◌<◌}
use lib.ListN.{length, get_or, set}
use Rattle.register.specs.Xor.{◌⊕◌}
use Rattle.answer.specs.Answer.{told_refusal, output_after}
use Rattle.record800.proofs.Answer.{write_delivers}
use Rattle.terms.proofs.Terms.{with_terms, refused_with_terms}
use Rattle.terms.specs.Call.{write, answer_to, result_of}
use Rattle.terms.specs.Reading.{bpi800, written_record}
use Rattle.writer800.proofs.Writing.{length_refused, space_refused, check_fits, check_is, all_stored}
use Rattle.writer800.proofs.writer.write.Goals as goal

pub returns-then-n-lt-LEAST_DATA : goal.returns-then-n-lt-LEAST_DATA
unfolding answer_to result_of written_record
returns-then-n-lt-LEAST_DATA c =
    let refused = refused_with_terms _ _ (write bpi800 c.args.bytes.now) _ _ (ap told_refusal c.into.ensures)
    (length_refused _ _ c.then-n-lt-LEAST_DATA.either) in record {
      answer = refused.0;
      output = refused.1.0;
      terms = refused.1.1;
    }

pub returns-then-characters-n : goal.returns-then-characters-n
unfolding answer_to result_of written_record
returns-then-characters-n c =
    let refused = refused_with_terms _ _ (write bpi800 c.args.bytes.now) _ _ (ap told_refusal c.into-then-characters-n.ensures)
    (space_refused _ _ c.if-n-lt-LEAST_DATA.false c.if-n-gt-MOST_DATA.false c.if-characters-n.true) in record {
      answer = refused.0;
      output = refused.1.0;
      terms = refused.1.1;
    }

pub shift-check-requires : goal.shift-check-requires
shift-check-requires c = check_fits c.args.bytes.now (λ k. (c.type_inv.bytes k).fits) _ _ c.write_data-sums.ensures.check.0

pub returns : goal.returns
unfolding output_after answer_to result_of written_record
returns c =
    let bytes = c.args.bytes.now in
    let below : (k : ℕ) → get_or bytes k 0 < 256 = λ k. (c.type_inv.bytes k).fits in
    let sums = c.write_data-sums in
    let check = c.shift-check.result ⊕ 471 in
    let written =
    with_terms _ _ _ (write bpi800 bytes)
    (sym (write_delivers _ _ c.if-n-lt-LEAST_DATA.false c.if-n-gt-MOST_DATA.false c.if-characters-n.false))
    (ap (λ (l : List ℕ). set (set l (length bytes) check) (length bytes + 1) (sums.result.longitudinal ⊕ check)) sums.ensures.output
    ∙ all_stored bytes below c.args.characters.now check _ c.if-characters-n.false
    (ap (λ (x : ℕ). x ⊕ 471) c.shift-check.ensures ∙ check_is bytes below sums.result.check sums.ensures.check.0)
    (ap (λ (x : ℕ). x ⊕ check) sums.ensures.check.1)) in record {
      answer = written.0;
      output = written.1.0;
      terms = written.1.1;
    }
