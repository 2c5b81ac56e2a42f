-- How far the report is once so many logs were read: their lines were handed over or are on the page, and nothing else.
-- Assumes nothing.
use Prim.Native.Nat.{ℕ, suc, ◌+◌, ◌-◌, ◌*◌, ◌≤◌}
use mathlib.Core.Path.{◌≡◌, refl, sym, ap, subst, ◌∙◌}
use mathlib.Core.List.{List, [], ◌++◌, append_assoc}
use mathlib.Core.Logic.{inl, inr}
use native.Mathlib.Nat.{add_assoc, zero-add}
use native.Mathlib.Omega.{arith}
use lib.ListN.{length, drop, length-append}
use lib.Seq.{drop-append-le, drop-length}
use Rattle.std.specs.Prelude.{Some, Result, Ok, Err}
use Rattle.std.specs.Result.{IsErrAnd}
use Rattle.page.specs.Page.{page_size, PageText, held_count, whole_text, Printed}
use Rattle.page.proofs.Printed.{after_fits, after_none, printed_both, whole_count}
use Rattle.report.specs.Made.{Lines, MarksPut, LastPut, OnPage, Begun, Bounded, RoomMade, Reported}
use Rattle.transfer.specs.declared.Failure.{Failure}
use Rattle.report.specs.declared.part.Output.{Output}
use Rattle.report.specs.declared.whole.Stop.{Stop}
use Rattle.report.specs.declared.whole.Stop.TheVariants.{Unread as Stopped}
use Rattle.report.specs.Report.{most_marks, most_line, count_text, report_from, report_text}
use Rattle.report.proofs.Short.{count_short}

pub record State (logs total handed : ℕ) (page : PageText) : Type 0 where
  pub begun : Begun logs total handed page
  -- a log has one byte at least, so many marks at most, and a line of so many bytes at most
  pub bytes : logs ≤ length begun.input
  pub marks : total ≤ most_marks * logs
  pub short : length begun.lines ≤ 22 * logs

-- what was handed over and what is held is of that length
pub state_bound : {logs total handed : ℕ} {page : PageText} → State logs total handed page → handed + held_count page ≤ 22 * logs
state_bound s = omega (arith, s.begun.text.all, s.short)

pub state_as : {logs total handed handed' : ℕ} {page page' : PageText} → State logs total handed page → handed' ≡ handed → page' ≡ page → State logs total handed' page'
state_as s e f = rw (e, f) s

-- ---- the first lines

pub state_none : State 0 0 0 (Ok [])
state_none = record {
  begun = record {
    input = [];
    lines = [];
    are = λ more rest. ap (λ (n : ℕ). report_from n 0 rest) (zero-add more);
    text = record { all = refl; put = sym (after_none (Some [])) };
  };
  bytes = omega arith;
  marks = omega arith;
  short = omega arith;
}

-- ---- a page is handed over

pub state_passed : (logs total handed : ℕ) (page : PageText) → State logs total handed page → State logs total (handed + held_count page) (Ok [])
state_passed logs total handed page s =
    let lines = s.begun.lines in
    let all = s.begun.text.all in
    let none : drop (handed + held_count page) lines ≡ [] = ap (λ (n : ℕ). drop n lines) all ∙ drop-length lines in
    record {
      begun = record {
        input = s.begun.input;
        lines = lines;
        are = s.begun.are;
        text = record { all = omega arith; put = rw none (sym (after_none (Some []))) };
      };
      bytes = s.bytes;
      marks = s.marks;
      short = s.short;
    }

-- ---- there is room for a line, as there was, or since a page was handed over

pub state_roomy : (logs total : ℕ) (o o' : Output) → State logs total o.handed o.page → RoomMade o o' (Ok tt) → State logs total o'.handed o'.page
state_roomy logs total o o' s room =
    elim room.1 [
      | inl same ↦ rw (same.0, same.1) s
      | inr passed ↦ rw (passed.0, passed.1) (state_passed logs total o.handed o.page s)
    ]

-- ---- one text more

module _ (lines text : List ℕ) (handed : ℕ) where
  held_more : (page page' : PageText) → held_count page + length text ≤ page_size → Printed text page page' → held_count page' ≡ held_count page + length text
  held_more (Err held) page' room put = absurd (omega arith)
  held_more (Ok held) page' room put = whole_count page' (held ++ text) (put ∙ after_fits held text (omega arith)) ∙ length-append held text

  page_more : (page page' : PageText) → held_count page + length text ≤ page_size → OnPage lines handed page → Printed text page page' → OnPage (lines ++ text) handed page'
  page_more page page' room on put =
      let behind = drop-append-le handed lines text (omega (arith, on.all)) in
      record { all = omega (arith, on.all, held_more page page' room put, length-append lines text); put = rw behind (printed_both _ _ (Ok []) page page' on.put put) }

-- ---- one log more

lines_more : (logs total total' total'' : ℕ) (input lines next line : List ℕ) → Lines logs total input lines total' → Lines 1 total' next line total''
    → Lines (logs + 1) total (input ++ next) (lines ++ line) total''
lines_more logs total total' total'' input lines next line first second more rest =
    ap (λ (n : ℕ). report_from n total (input ++ next ++ rest)) (add_assoc logs 1 more)
    ∙ ap (report_from (logs + (1 + more)) total) (append_assoc input next rest)
    ∙ first (1 + more) (next ++ rest)
    ∙ ap (λ (l : List ℕ). lines ++ l) (second more rest)
    ∙ sym (append_assoc lines line (report_from more total'' rest))

module _ (logs total handed : ℕ) (page page' : PageText) (s : State logs total handed page) (room : held_count page + most_line ≤ page_size) where
  pub state_more : (total' : ℕ) → MarksPut total page page' total' → State (logs + 1) total' handed page'
  state_more total' m =
      let b = s.begun in
      let line : List ℕ = count_text m.count in
      let few = count_short m.count in
      record {
        begun = record {
          input = b.input ++ m.next;
          lines = b.lines ++ line;
          are = lines_more logs 0 total total' b.input b.lines m.next line b.are m.lines;
          text = page_more b.lines line handed page page' (omega (arith, few)) b.text m.put;
        };
        bytes = omega (arith, s.bytes, m.some, length-append b.input m.next);
        marks = omega (arith, s.marks, m.sum, m.few);
        short = omega (arith, s.short, few, length-append b.lines line);
      }

  -- ---- the last line

  module _ (l : LastPut total page page') where
    abbrev input : List ℕ
    input = s.begun.input ++ l.next

    report_is : s.begun.lines ++ l.line ≡ report_text input
    report_is =
        let left : ℕ = length input - logs in
        let all : suc (length input) ≡ logs + suc left = omega (arith, s.bytes, length-append s.begun.input l.next) in
        sym (ap (λ (n : ℕ). report_from n 0 input) all
        ∙ s.begun.are (suc left) l.next
        ∙ ap (λ (x : List ℕ). s.begun.lines ++ x) (l.last left))

    last_text : OnPage (s.begun.lines ++ l.line) handed page'
    last_text = page_more s.begun.lines l.line handed page page' (omega (arith, l.short)) s.begun.text l.put

    pub state_last : (input : List ℕ) × OnPage (report_text input) handed page'
    state_last = (input, subst (λ (text : List ℕ). OnPage text handed page') report_is last_text)

    pub last_bound : handed + held_count page' ≤ 22 * logs + most_line
    last_bound = omega (arith, last_text.all, s.short, l.short, length-append s.begun.lines l.line)

-- ---- how it ends

-- a read failed, behind the lines of the logs before
pub stopped : (logs total : ℕ) (o : Output) (failure : Failure) (r : Result (Unit {0}) Stop) → State logs total o.handed o.page → Bounded o → IsErrAnd r (λ stop. stop ≡ Stopped failure) → Reported o r
stopped logs total o failure (Ok done) s bound is = absurd is
stopped logs total o failure (Err stop) s bound is = rw is (bound, (logs, total, s.begun))
