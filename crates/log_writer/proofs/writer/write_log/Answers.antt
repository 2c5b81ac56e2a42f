-- `log_writer::writer::write_log` meets its contract: each check is the definition's, and the notice's terms follow.
-- Assumes nothing.
use Rattle.std.specs.Prelude.{Err, Option, None, is_some}
use Rattle.std.specs.Option.{ok_or}
use Rattle.std.specs.Result.{result_ok}
use Rattle.std.proofs.lemmas.Result.{err_from_is_err_and}
use Rattle.answer.specs.declared.Reason.{Reason}
use Rattle.answer.specs.declared.Reason.TheVariants.{Length}
use mathlib.Core.Path.{◌≡◌, sym, ap, ap₂, ◌∙◌}
use mathlib.Core.Bool.{Bool, true}
use mathlib.Core.List.{List}
use Prim.Native.Nat.{ℕ, ◌≤◌}
use native.Mathlib.Omega.{arith}
use borrow.Author.Tests.{le-leb, lt-leb}
use lib.ListN.{length}
use Rattle.std.proofs.Common.{Bor}
use Rattle.answer.specs.Answer.{Answer, told_refusal, told_written, output_after}
use borrow.Author.Rules.{rules}
use Rattle.scan6250.specs.declared.Reading.{Reading}
use Rattle.record6250.specs.Read.{answer_if}
use Rattle.record6250.proofs.Answer.{length_refused, space_refused}
use Rattle.record6250.proofs.Reading.{lengths_told}
use Rattle.sense_log.specs.Log.{log_space}
use Rattle.sense_log.specs.Written.{logged, reading_log, log_answer}
use Rattle.terms.proofs.Terms.{with_terms, refused_with_terms}
use Rattle.terms.specs.Call.{log, answer_to, result_of}
use Rattle.terms.specs.Terms.{Terms}
use Rattle.log_writer.proofs.writer.write_log.Goals as goal

-- what is said of a reading as it is held is said of it as it is lent
as_lent : {X : Type 0} (f : Bool → List ℕ → List ℕ → X) (a b : Bool) (v w k m : Bor (List ℕ)) → v ≡ w → k ≡ m → a ≡ b → f a v.now k.now ≡ f b w.now m.now
as_lent f a b v w k m words maps way =
    ap₂ (λ (d : Bool) (x : Bor (List ℕ)). f d x.now k.now) way words ∙ ap (λ (x : Bor (List ℕ)). f b w.now x.now) maps

-- what writing a log with space enough promises
module _ (r : Reading) (b : Bool) (words maps : Bor (List ℕ)) (lent : (r.words ≡ words) × (r.maps ≡ maps) × (r.backward ≡ b))
    (output after : List ℕ) (told : Answer) (enough : log_space (length maps.now) ≤ length output) where
  with-space : told ≡ logged (length (reading_log r.backward r.words.now r.maps.now)) (answer_if r.backward r.words.now r.maps.now true)
      → after ≡ output_after told (reading_log r.backward r.words.now r.maps.now) output
      → (told ≡ log_answer b words.now maps.now (length output))
      × ((after ≡ output_after told (reading_log b words.now maps.now) output) × Terms (log b words.now maps.now) told output after)
  unfolding answer_to result_of log_answer
  with-space answers stores =
      with_terms told output after (log b words.now maps.now)
      (answers
      ∙ as_lent (λ d w m. logged (length (reading_log d w m)) (answer_if d w m true)) _ _ r.words words r.maps maps lent.0 lent.1 lent.2
      ∙ ap (λ (t : Bool). logged (length (reading_log b words.now maps.now)) (answer_if b words.now maps.now t)) (sym (le-leb _ _ enough)))
      (stores ∙ as_lent (λ d w m. output_after told (reading_log d w m) output) _ _ r.words words r.maps maps lent.0 lent.1 lent.2)

-- there is no reading of other lengths
pub returns-in_err-reading : goal.returns-in_err-reading
unfolding answer_to result_of log_answer
returns-in_err-reading c =
    let args = c.args in
    let none : c.new.result ≡ None = c.ok_or.ensures.ok_part ∙ ap result_ok c.in_err-reading.was in
    let unsuited = sym c.new.ensures.some ∙ ap is_some none in
    let gives = err_from_is_err_and c.from_residual.result c.from_residual.ensures.1 in
    let is : Err c.in_err-reading.field-0.0 ≡ Err Length = sym c.in_err-reading.was ∙ c.ok_or.ensures.value ∙ ap (λ (o : Option Reading). ok_or o Length) none in
    let reason : c.in_err-reading.field-0.0 ≡ Length = cc in
    let refusal : c.from_residual.result ≡ Err (record { reason = Length; place = 0 }) = gives.1 ∙ ap Err (gives.2 ∙ ap (λ (r : Reason). record { reason = r; place = 0 }) reason) in
    let made = refused_with_terms _ _ (log args.backward args.words.now args.maps.now) _ _ (ap told_written refusal)
    (ap (logged (length (reading_log args.backward args.words.now args.maps.now)))
    (length_refused args.backward args.words.now args.maps.now _ unsuited)) in record {
      answer = made.0;
      log = made.1.0;
      terms = made.1.1;
    }

pub returns-then-log-bit_map_length : goal.returns-then-log-bit_map_length
unfolding answer_to result_of log_answer
returns-then-log-bit_map_length c =
    let args = c.args in
    let made = refused_with_terms _ _ (log args.backward args.words.now args.maps.now) _ _ (ap told_refusal c.into.ensures)
    (ap (logged (length (reading_log args.backward args.words.now args.maps.now)))
    (space_refused args.backward args.words.now args.maps.now _ (sym c.new.ensures.some ∙ ap is_some (c.ok_or.ensures.ok_part ∙ ap result_ok c.in_ok-reading.was))
    (lt-leb (log_space (length args.maps.now)) (length args.log.now) (omega (arith, c.if-log-bit_map_length.true, c.bit_map_length.ensures))))) in record {
      answer = made.0;
      log = made.1.0;
      terms = made.1.1;
    }

pub log_within-requires : goal.log_within-requires
log_within-requires c =
    let lent = rw (c.ok_or.ensures.ok_part ∙ ap result_ok c.in_ok-reading.was) at c.new.ensures.as_lent in
    let same = ap (λ (x : Bor (List ℕ)). length x.now) lent.1 in record {
      sizes = search rules;
      groups = omega (arith, same, c.if-groups-le-SHORT.true);
      space = omega (arith, same, c.if-log-bit_map_length.false, c.bit_map_length.ensures);
    }

pub log_within-requires-else-groups-le-SHORT : goal.log_within-requires-else-groups-le-SHORT
log_within-requires-else-groups-le-SHORT c =
    let lent = rw (c.ok_or.ensures.ok_part ∙ ap result_ok c.in_ok-reading.was) at c.new.ensures.as_lent in
    let same = ap (λ (x : Bor (List ℕ)). length x.now) lent.1 in record {
      sizes = search rules;
      groups = (lengths_told _ _ c.in_ok-reading.reading.suits).1;
      space = omega (arith, same, c.if-log-bit_map_length.false, c.bit_map_length.ensures);
    }

pub returns-then-groups-le-SHORT : goal.returns-then-groups-le-SHORT
returns-then-groups-le-SHORT c =
    let done = c.log_within.ensures in
    let made = with-space c.in_ok-reading.reading c.args.backward c.args.words c.args.maps (rw (c.ok_or.ensures.ok_part ∙ ap result_ok c.in_ok-reading.was) at c.new.ensures.as_lent) c.args.log.now _ _
    (omega (arith, c.if-log-bit_map_length.false, c.bit_map_length.ensures)) done.answer done.log in record {
      answer = made.0;
      log = made.1.0;
      terms = made.1.1;
    }

pub returns-else-groups-le-SHORT : goal.returns-else-groups-le-SHORT
returns-else-groups-le-SHORT c =
    let done = c.log_within-else-groups-le-SHORT.ensures in
    let made = with-space c.in_ok-reading.reading c.args.backward c.args.words c.args.maps (rw (c.ok_or.ensures.ok_part ∙ ap result_ok c.in_ok-reading.was) at c.new.ensures.as_lent) c.args.log.now _ _
    (omega (arith, c.if-log-bit_map_length.false, c.bit_map_length.ensures)) done.answer done.log in record {
      answer = made.0;
      log = made.1.0;
      terms = made.1.1;
    }
