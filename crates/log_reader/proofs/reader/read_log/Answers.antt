-- `log_reader::reader::read_log` meets its contract: the checks are the definition's, in its order.
-- Assumes nothing.
use Rattle.std.proofs.Common.{Bor}
use Rattle.std.specs.Prelude.{Err, Option, None, is_some}
use Rattle.std.specs.Option.{ok_or}
use Rattle.std.specs.Result.{result_ok}
use Rattle.std.proofs.lemmas.Result.{err_from_is_err_and}
use Rattle.answer.specs.declared.Reason.{Reason}
use Rattle.answer.specs.declared.Reason.TheVariants.{LogLength}
use Rattle.log_reader.specs.Told.{told_back}
use Rattle.log_reader.specs.declared.log.Log.{Log}
use mathlib.Core.Path.{◌≡◌, sym, ap, ap₂, ◌∙◌}
use mathlib.Core.Bool.{true}
use mathlib.Core.List.{List, ◌++◌}
use Prim.Native.Nat.{ℕ}
use native.Mathlib.Omega.{arith}
use lib.Dec.{leb}
use lib.ListN.{length, drop}
use borrow.Author.Tests.{le-leb, lt-leb}
use Rattle.answer.specs.Answer.{delivered, told_refusal, output_after}
use Rattle.sense_log.specs.Back.{length_suits, content_suits, maps_of, read_log_answer}
use Rattle.sense_log.specs.Log.{track_marks}
use Rattle.sense_log.proofs.Answer.{back_no_space, back_no_length, back_no_content, back_all}
use Rattle.sense_log.proofs.Back.{length_maps_of}
use Rattle.terms.proofs.Terms.{with_terms, refused_with_terms}
use Rattle.terms.specs.Call.{read_log, answer_to, result_of}
use Rattle.terms.specs.Terms.{Terms}
use Rattle.log_reader.proofs.reader.read_log.Goals as goal

-- what a good log with space for its maps promises
module _ (groups : ℕ) (log maps after : List ℕ) (room : leb groups (length maps) ≡ true) (suits : length_suits groups log ≡ true)
    (good : content_suits groups log ≡ true) (marks : List ℕ) (counted : marks ≡ track_marks (maps_of groups log)) where
  all-delivered : after ≡ maps_of groups log ++ drop groups maps
      → (delivered marks ≡ read_log_answer groups log (length maps))
      × ((after ≡ output_after (delivered marks) (maps_of groups log) maps) × Terms (read_log groups log) (delivered marks) maps after)
  unfolding answer_to result_of output_after
  all-delivered stores =
      with_terms (delivered marks) maps after (read_log groups log) (ap delivered counted ∙ sym (back_all groups log (length maps) room suits good))
      (stores ∙ ap (λ (n : ℕ). maps_of groups log ++ drop n maps) (sym (length_maps_of groups log)))

pub returns-then-maps-groups : goal.returns-then-maps-groups
unfolding answer_to result_of
returns-then-maps-groups c =
    let args = c.args in
    let all = refused_with_terms _ _ (read_log args.groups args.log.now) _ _ (ap told_refusal c.into.ensures)
    (back_no_space args.groups args.log.now _ (lt-leb args.groups (length args.maps.now) (omega (arith, c.if-maps-groups.true)))) in
    record {
      answer = all.0;
      maps = all.1.0;
      terms = all.1.1;
    }

-- a log is made of no other lengths
pub returns-in_err-log : goal.returns-in_err-log
unfolding answer_to result_of
returns-in_err-log c =
    let args = c.args in
    let none : c.new.result ≡ None = c.ok_or.ensures.ok_part ∙ ap result_ok c.in_err-log.was in
    let unsuited = sym c.new.ensures.some ∙ ap is_some none in
    let gives = err_from_is_err_and c.from_residual.result c.from_residual.ensures.1 in
    let is : Err c.in_err-log.field-0.0 ≡ Err LogLength = sym c.in_err-log.was ∙ c.ok_or.ensures.value ∙ ap (λ (o : Option Log). ok_or o LogLength) none in
    let reason : c.in_err-log.field-0.0 ≡ LogLength = cc in
    let refusal : c.from_residual.result ≡ Err (record { reason = LogLength; place = 0 }) =
    gives.1 ∙ ap Err (gives.2 ∙ ap (λ (r : Reason). record { reason = r; place = 0 }) reason) in
    let all = refused_with_terms _ _ (read_log args.groups args.log.now) _ _ (ap told_back refusal)
    (back_no_length args.groups args.log.now _ (le-leb args.groups (length args.maps.now) c.if-maps-groups.false) unsuited) in
    record {
      answer = all.0;
      maps = all.1.0;
      terms = all.1.1;
    }

pub returns-then-not-content_suits : goal.returns-then-not-content_suits
unfolding answer_to result_of
returns-then-not-content_suits c =
    let args = c.args in
    let lent = rw (c.ok_or.ensures.ok_part ∙ ap result_ok c.in_ok-log.was) at c.new.ensures.as_lent in
    let bytes = ap (λ (b : Bor (List ℕ)). b.now) lent.1 in
    let suits = sym (ap₂ length_suits lent.0 bytes) ∙ c.in_ok-log.log.suits in
    let unsuited = sym (c.content_suits.ensures ∙ ap₂ content_suits lent.0 bytes) ∙ c.if-not-content_suits.true in
    let all = refused_with_terms _ _ (read_log args.groups args.log.now) _ _ (ap told_refusal c.into-then-not-content_suits.ensures)
    (back_no_content args.groups args.log.now _ (le-leb args.groups (length args.maps.now) c.if-maps-groups.false) suits unsuited) in
    record {
      answer = all.0;
      maps = all.1.0;
      terms = all.1.1;
    }

pub returns : goal.returns
returns c =
    let args = c.args in
    let lent = rw (c.ok_or.ensures.ok_part ∙ ap result_ok c.in_ok-log.was) at c.new.ensures.as_lent in
    let bytes = ap (λ (b : Bor (List ℕ)). b.now) lent.1 in
    let suits = sym (ap₂ length_suits lent.0 bytes) ∙ c.in_ok-log.log.suits in
    let right = sym (c.content_suits.ensures ∙ ap₂ content_suits lent.0 bytes) ∙ c.if-not-content_suits.false in
    let all = all-delivered args.groups args.log.now args.maps.now _ (le-leb args.groups (length args.maps.now) c.if-maps-groups.false) suits right _
    (c.deliver.ensures.marks ∙ ap₂ (λ (n : ℕ) (l : List ℕ). track_marks (maps_of n l)) lent.0 bytes)
    (c.deliver.ensures.maps ∙ ap₂ (λ (n : ℕ) (l : List ℕ). maps_of n l ++ drop n args.maps.now) lent.0 bytes) in
    record {
      answer = all.0;
      maps = all.1.0;
      terms = all.1.1;
    }
