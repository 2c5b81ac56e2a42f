-- The report of an input, log by log, and its last line.
-- Assumes nothing.
use Prim.Native.Nat.{ℕ, suc, ◌+◌, ◌<◌}
use mathlib.Core.Path.{◌≡◌, refl, sym, ap, ap₂, ◌∙◌}
use mathlib.Core.List.{List, [], ◌++◌, append_assoc, append-nil}
use native.Mathlib.Numerals.{one-add}
use native.Mathlib.Omega.{arith}
use borrow.Author.Tests.{ne_eqb, lt-ltb, le-ltb}
use lib.ListN.{length, take, drop, length-append}
use lib.Seq.{take_at, drop_at}
use Rattle.answer.specs.Answer.{Answer, delivered, refused}
use Rattle.answer_text.specs.Refusal.{refusal_text}
use Rattle.sense_log.specs.Pair.{pair_at}
use Rattle.page.specs.Page.{PageText, Printed}
use Rattle.report.specs.Made.{LogPut, Lines, LastPut, NextPut}
use Rattle.report.specs.Report.{heading_length, answer_of, marks_of, count_text, cut_text, log_text, groups_at, length_at, log_at, report_from}
use Rattle.std.specs.Prelude.{Option, None, Some, Ok}
use Rattle.report.proofs.Answered.{marks_few}
use Rattle.report.proofs.Came.{pair_in_front}
use Rattle.report.proofs.Short.{count_short, refusal_short}

module _ (heading log : List ℕ) (whole : length heading ≡ heading_length) (all : length log ≡ length_at heading) where
  abbrev groups : ℕ
  groups = groups_at heading

  module _ (rest : List ℕ) where
    abbrev input : List ℕ
    input = heading ++ log ++ rest

    in_heading : (at : ℕ) → at + 1 < heading_length → pair_at input at ≡ pair_at heading at
    in_heading at h = ap (λ (l : List ℕ). pair_at l at) (append_assoc heading log rest) ∙ pair_in_front heading (log ++ rest) at (omega arith)

    same_length : length_at input ≡ length log
    same_length = in_heading 2 (omega arith) ∙ sym all

    same_log : log_at input ≡ log
    same_log =
        ap₂ (λ (n : ℕ) (l : List ℕ). take n l) same_length (ap (drop heading_length) (append_assoc heading log rest) ∙ drop_at heading (log ++ rest) heading_length whole)
        ∙ take_at log rest (length log) refl

    read : length (heading ++ log) ≡ heading_length + length_at input
    read = omega (arith, length-append heading log, same_length)

    same_rest : drop (heading_length + length_at input) input ≡ rest
    same_rest = drop_at (heading ++ log) rest (heading_length + length_at input) read

    -- the report of a log that is whole, and of what comes behind it
    next_log : (logs total : ℕ) → report_from (suc logs) total input ≡ log_text (answer_of groups log) (marks_of groups log) (report_from logs (total + marks_of groups log) rest)
    unfolding report_from
    next_log logs total =
        let long : length input ≡ heading_length + length_at input + length rest = omega (arith, length-append (heading ++ log) rest, read) in
        let text : ℕ → List ℕ → List ℕ → List ℕ = λ g l r. log_text (answer_of g l) (marks_of g l) (report_from logs (total + marks_of g l) r) in
        rw (ne_eqb (length input) 0 (λ none. omega arith), le-ltb (length input) (heading_length + length_at input) (omega arith))
        (ap (λ (g : ℕ). text g (log_at input) (drop (heading_length + length_at input) input)) (in_heading 0 (omega arith))
        ∙ ap₂ (text groups) same_log same_rest)

  -- its line, and the report goes on; or it is the last
  marks_lines : (total total' : ℕ) (figures : List ℕ) → answer_of groups log ≡ delivered figures → total' ≡ total + marks_of groups log → Lines 1 total (heading ++ log) (count_text (marks_of groups log)) total'
  marks_lines total total' figures is sum more rest =
      ap (λ (n : ℕ). report_from n total (heading ++ log ++ rest)) (one-add more)
      ∙ next_log rest more total
      ∙ ap₂ (λ (a : Answer) (t : ℕ). log_text a (marks_of groups log) (report_from more t rest)) is (sym sum)

  refused_last : (number place total : ℕ) → answer_of groups log ≡ refused number place → (more : ℕ) → report_from (suc more) total (heading ++ log) ≡ refusal_text number place
  refused_last number place total is more =
      ap (report_from (suc more) total) (sym (append-nil (heading ++ log)))
      ∙ next_log [] more total
      ∙ ap (λ (a : Answer). log_text a (marks_of groups log) (report_from more (total + marks_of groups log) [])) is

  pub log_put : (total : ℕ) (page page' : PageText) (r : Option ℕ) → LogPut groups log total page page' r → NextPut total page page' (Ok r)
  log_put total page page' (Some total') put = record {
    next = heading ++ log;
    some = omega (arith, length-append heading log);
    count = marks_of groups log;
    few = marks_few groups log put.0.0 put.0.1;
    sum = put.1;
    lines = marks_lines total total' put.0.0 put.0.1 put.1;
    put = put.2;
  }
  log_put total page page' None put = record {
    next = heading ++ log;
    line = refusal_text put.0 put.1;
    short = refusal_short put.0 put.1;
    last = refused_last put.0 put.1 total put.2;
    put = put.3;
  }

module _ (total : ℕ) (page page' : PageText) where
  -- nothing is left
  total_last : (more : ℕ) → report_from (suc more) total [] ≡ count_text total
  unfolding report_from
  total_last more = refl

  pub total_put : Printed (count_text total) page page' → LastPut total page page'
  total_put put = record { next = []; line = count_text total; short = omega (arith, count_short total); last = total_last; put = put }

  -- what is left is cut
  module _ (part : List ℕ) (some : 0 < length part) (short : length part < heading_length + length_at part) where
    cut_last : (more : ℕ) → report_from (suc more) total part ≡ cut_text
    unfolding report_from
    cut_last more = rw (ne_eqb (length part) 0 (λ none. omega arith), lt-ltb (length part) (heading_length + length_at part) short) refl

    pub cut_put : Printed cut_text page page' → LastPut total page page'
    cut_put put = record { next = part; line = cut_text; short = refusal_short 9 0; last = cut_last; put = put }
