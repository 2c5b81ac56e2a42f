-- `reader6250::reader::read_record` meets its contract: each check is the definition's, and the notice's terms follow.
-- Assumes nothing.
use Rattle.std.specs.Prelude.{Err, Option, None, is_some}
use Rattle.std.specs.Option.{ok_or}
use Rattle.std.specs.Result.{result_ok}
use Rattle.std.proofs.lemmas.Result.{err_from_is_err_and}
use mathlib.Core.Path.{◌≡◌, sym, ap, ◌∙◌}
use mathlib.Core.Bool.{Bool, true}
use mathlib.Core.List.{List}
use Prim.Native.Nat.{ℕ, ◌-◌, ◌*◌, ◌≤◌}
use native.Mathlib.Omega.{arith}
use borrow.Author.Tests.{le-leb, lt-leb}
use lib.ListN.{length}
use Rattle.answer.specs.Answer.{Answer, output_after, told_refusal}
use Rattle.answer.specs.declared.Reason.{Reason}
use Rattle.answer.specs.declared.Reason.TheVariants.{Length}
use Rattle.scan6250.specs.declared.Reading.{Reading}
use Rattle.record6250.specs.Read as Read
use Rattle.record6250.proofs.Answer.{length_refused, space_refused}
use Rattle.record6250.proofs.Reading.{lengths_told}
use Rattle.scan6250.specs.Told.{told_read}
use Rattle.terms.proofs.Terms.{with_terms, refused_with_terms}
use Rattle.terms.specs.Call.{read, answer_to, result_of}
use Rattle.terms.specs.Reading.{at6250, read_answer, read_data}
use Rattle.terms.specs.Terms.{Terms}
use Rattle.reader6250.proofs.reader.read_record.Goals as goal

-- what a reading with space enough promises
module _ (b : Bool) (words maps output after : List ℕ) (told : Answer) (enough : 7 * length maps - 1 ≤ length output) where
  with-space : told ≡ Read.answer_if b words maps true → after ≡ output_after told (Read.read_data b words maps) output
      → (told ≡ Read.read_answer b words maps (length output))
      × ((after ≡ output_after told (Read.read_data b words maps) output) × Terms (read (at6250 b words maps)) told output after)
  unfolding answer_to result_of read_answer read_data Read.read_answer
  with-space answers stores =
      with_terms told output after (read (at6250 b words maps)) (answers ∙ ap (Read.answer_if b words maps) (sym (le-leb _ _ enough))) stores

-- the reading being what was lent
of_reading : (reading : Reading) (b : Bool) (words maps output after : List ℕ) (told : Answer) → 7 * length maps - 1 ≤ length output
    → reading.words.now ≡ words → reading.maps.now ≡ maps → reading.backward ≡ b
    → told ≡ Read.answer_if reading.backward reading.words.now reading.maps.now true
    → after ≡ output_after told (Read.read_data reading.backward reading.words.now reading.maps.now) output
    → (told ≡ Read.read_answer b words maps (length output))
    × ((after ≡ output_after told (Read.read_data b words maps) output) × Terms (read (at6250 b words maps)) told output after)
of_reading reading b words maps output after told enough at-words at-maps at-b answers stores =
    with-space b words maps output after told enough (rw (at-words, at-maps, at-b) at answers) (rw (at-words, at-maps, at-b) at stores)

-- there is no reading of other lengths
pub returns-in_err-reading : goal.returns-in_err-reading
unfolding answer_to result_of read_answer read_data Read.read_answer
returns-in_err-reading c =
    let args = c.args in
    let none : c.new.result ≡ None = c.ok_or.ensures.ok_part ∙ ap result_ok c.in_err-reading.was in
    let unsuited = sym c.new.ensures.some ∙ ap is_some none in
    let gives = err_from_is_err_and c.from_residual.result c.from_residual.ensures.1 in
    let is : Err c.in_err-reading.field-0.0 ≡ Err Length = sym c.in_err-reading.was ∙ c.ok_or.ensures.value ∙ ap (λ (o : Option Reading). ok_or o Length) none in
    let reason : c.in_err-reading.field-0.0 ≡ Length = cc in
    let refusal : c.from_residual.result ≡ Err (record { reason = Length; place = 0 }) = gives.1 ∙ ap Err (gives.2 ∙ ap (λ (r : Reason). record { reason = r; place = 0 }) reason) in
    let made = refused_with_terms _ _ (read (at6250 args.backward args.words.now args.maps.now)) _ _ (ap told_read refusal)
    (length_refused args.backward args.words.now args.maps.now _ unsuited) in record {
      answer = made.0;
      output = made.1.0;
      terms = made.1.1;
    }

pub overflow_mul-groups : goal.overflow_mul-groups
overflow_mul-groups c =
    let suits = sym c.new.ensures.some ∙ ap is_some (c.ok_or.ensures.ok_part ∙ ap result_ok c.in_ok-reading.was) in
    omega (arith, (lengths_told _ _ suits).1)

pub overflow_sub-groups : goal.overflow_sub-groups
overflow_sub-groups c =
    let suits = sym c.new.ensures.some ∙ ap is_some (c.ok_or.ensures.ok_part ∙ ap result_ok c.in_ok-reading.was) in
    omega (arith, (lengths_told _ _ suits).0)

pub returns-then-output-groups : goal.returns-then-output-groups
unfolding answer_to result_of read_answer read_data Read.read_answer
returns-then-output-groups c =
    let args = c.args in
    let suits = sym c.new.ensures.some ∙ ap is_some (c.ok_or.ensures.ok_part ∙ ap result_ok c.in_ok-reading.was) in
    let made = refused_with_terms _ _ (read (at6250 args.backward args.words.now args.maps.now)) _ _ (ap told_refusal c.into.ensures)
    (space_refused args.backward args.words.now args.maps.now _ suits (lt-leb (7 * length args.maps.now - 1) (length args.output.now) (omega (arith, c.if-output-groups.true)))) in record {
      answer = made.0;
      output = made.1.0;
      terms = made.1.1;
    }

pub read_within-requires : goal.read_within-requires
read_within-requires c =
    let lent = rw (c.ok_or.ensures.ok_part ∙ ap result_ok c.in_ok-reading.was) at c.new.ensures.as_lent in
    let maps = ap (λ (m : _). length m.now) lent.1 in
    (omega (arith, maps, c.if-groups-le-SHORT.true), omega (arith, maps, c.if-groups-le-SHORT.true), omega (arith, maps, c.if-output-groups.false), omega arith, omega arith)

pub read_within-requires-else-groups-le-SHORT : goal.read_within-requires-else-groups-le-SHORT
read_within-requires-else-groups-le-SHORT c =
    let lent = rw (c.ok_or.ensures.ok_part ∙ ap result_ok c.in_ok-reading.was) at c.new.ensures.as_lent in
    let maps = ap (λ (m : _). length m.now) lent.1 in
    let most = (lengths_told _ _ c.in_ok-reading.reading.suits).1 in
    (omega (arith, most), omega (arith, most), omega (arith, maps, c.if-output-groups.false), omega arith, omega arith)

pub returns-then-groups-le-SHORT : goal.returns-then-groups-le-SHORT
returns-then-groups-le-SHORT c =
    let lent = rw (c.ok_or.ensures.ok_part ∙ ap result_ok c.in_ok-reading.was) at c.new.ensures.as_lent in
    let made = of_reading c.in_ok-reading.reading _ _ _ _ _ _ (omega (arith, c.if-output-groups.false)) (ap (λ (w : _). w.now) lent.0) (ap (λ (m : _). m.now) lent.1) lent.2 c.read_within.ensures.answer c.read_within.ensures.output in record {
      answer = made.0;
      output = made.1.0;
      terms = made.1.1;
    }

pub returns-else-groups-le-SHORT : goal.returns-else-groups-le-SHORT
returns-else-groups-le-SHORT c =
    let lent = rw (c.ok_or.ensures.ok_part ∙ ap result_ok c.in_ok-reading.was) at c.new.ensures.as_lent in
    let made = of_reading c.in_ok-reading.reading _ _ _ _ _ _ (omega (arith, c.if-output-groups.false)) (ap (λ (w : _). w.now) lent.0) (ap (λ (m : _). m.now) lent.1) lent.2 c.read_within-else-groups-le-SHORT.ensures.answer c.read_within-else-groups-le-SHORT.ensures.output in record {
      answer = made.0;
      output = made.1.0;
      terms = made.1.1;
    }
