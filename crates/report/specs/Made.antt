-- What the report program has made: of a log, of what comes next in its input, and of all of it. No contract tells what is read; so of the
-- input it is said that there is one of which the text on the page is the report.
-- Assumes nothing.
use Rattle.std.specs.Prelude.{ℕ, suc, ◌+◌, ◌^◌, ◌≤◌, ◌<◌, ◌≡◌, Bool, true, false, cond, List, [], ◌++◌, ◌⊎◌, eqb, ltb, length, drop, Option, None, Some, Result, Ok, Err}
use Rattle.answer.specs.Answer.{delivered, refused}
use Rattle.answer_text.specs.Refusal.{refusal_text}
use Rattle.page.specs.Page.{page_size, PageText, held_count, Printed}
use Rattle.streams.specs.Ended.{is_whole, ended_behind}
use Rattle.streams.specs.Message.{unwritten_text}
use Rattle.transfer.specs.declared.Failure.{Failure}
use Rattle.report.specs.Report.{heading_length, most_marks, most_line, answer_of, marks_of, count_text, groups_at, length_at, report_from, report_text}
use Rattle.report.specs.declared.input.Heading.{Heading}
use Rattle.report.specs.declared.input.Missing.{Missing}
use Rattle.report.specs.declared.input.Missing.TheVariants.{Cut, Unread}
use Rattle.report.specs.declared.part.Output.{Output}
use Rattle.report.specs.declared.part.Unwritten.{Unwritten}
use Rattle.report.specs.declared.whole.Stop.{Stop}
use Rattle.report.specs.declared.whole.Stop.TheVariants.{Unread as Stopped, TooMany, Told}

-- The line of a log that is put behind logs with so many marks: its own marks, which join the total; or its refusal, and that is the last
-- line.
abbrev pub LogPut : ℕ → List ℕ → ℕ → PageText → PageText → Option ℕ → Type 0
LogPut groups log total page page' (Some total') =
    ((figures : List ℕ) × (answer_of groups log ≡ delivered figures)) × (total' ≡ total + marks_of groups log) × Printed (count_text (marks_of groups log)) page page'
LogPut groups log total page page' None =
    (number : ℕ) × (place : ℕ) × (answer_of groups log ≡ refused number place) × Printed (refusal_text number place) page page'

-- What comes next, by how reading ended: of a heading, and of the log behind one. Only a read that ended well tells that nothing is left, or
-- that the input is cut.
abbrev pub heading_came : Result ℕ Failure → Result Bool Missing
heading_came (Ok count) = cond (eqb count heading_length) (Ok true) (cond (eqb count 0) (Ok false) (Err Cut))
heading_came (Err failure) = Err (Unread failure)

abbrev pub behind_heading : Heading → Result ℕ Failure → Result Heading Missing
behind_heading h (Ok count) = cond (ltb count h.length) (Err Cut) (Ok h)
behind_heading h (Err failure) = Err (Unread failure)

-- What came behind a heading: the log that it tells of, at the front of the space; fewer bytes than it tells of; or a read failed.
abbrev pub CameBehind : List ℕ → List ℕ → Result Heading Missing → Type 0
CameBehind heading log (Ok h) = (h.groups ≡ groups_at heading) × (h.length ≡ length_at heading) × (h.length ≤ length log)
CameBehind heading log (Err Cut) = (part : List ℕ) × (length part < length_at heading)
CameBehind heading log (Err (Unread failure)) = Unit {0}

-- What came next: a heading, and the log behind it; nothing; bytes that are cut; or a read failed.
abbrev pub Came : List ℕ → Result (Option Heading) Missing → Type 0
Came log (Ok (Some h)) = (heading : List ℕ) × (length heading ≡ heading_length) × CameBehind heading log (Ok h)
Came log (Ok None) = Unit {0}
Came log (Err Cut) = (part : List ℕ) × (0 < length part) × (length part < heading_length + length_at part)
Came log (Err (Unread failure)) = Unit {0}

-- The lines of so many logs at the front of an input: whatever comes behind them, the report goes on behind these lines, with their total.
abbrev pub Lines : ℕ → ℕ → List ℕ → List ℕ → ℕ → Type 0
Lines logs total input lines total' =
    (more : ℕ) (rest : List ℕ) → report_from (logs + more) total (input ++ rest) ≡ lines ++ report_from more total' rest

-- the line of what came next
pub record MarksPut (total : ℕ) (page page' : PageText) (total' : ℕ) : Type 0 where
  pub next : List ℕ
  pub some : 0 < length next
  pub count : ℕ
  pub few : count ≤ most_marks
  pub sum : total' ≡ total + count
  pub lines : Lines 1 total next (count_text count) total'
  pub put : Printed (count_text count) page page'

-- and of the last that came
pub record LastPut (total : ℕ) (page page' : PageText) : Type 0 where
  pub next : List ℕ
  pub line : List ℕ
  pub short : length line ≤ most_line
  pub last : (more : ℕ) → report_from (suc more) total next ≡ line
  pub put : Printed line page page'

abbrev pub NextPut : ℕ → PageText → PageText → Result (Option ℕ) Failure → Type 0
NextPut total page page' (Ok (Some total')) = MarksPut total page page' total'
NextPut total page page' (Ok None) = LastPut total page page'
NextPut total page page' (Err failure) = page' ≡ page

-- a text, of which so many bytes were handed over, and the page holds the others
pub record OnPage (text : List ℕ) (handed : ℕ) (page : PageText) : Type 0 where
  pub all : handed + held_count page ≡ length text
  pub put : Printed (drop handed text) (Ok []) page

-- the lines of the first logs of an input
pub record Begun (logs total handed : ℕ) (page : PageText) : Type 0 where
  pub input : List ℕ
  pub lines : List ℕ
  pub are : Lines logs 0 input lines total
  pub text : OnPage lines handed page

-- What may be handed over behind so many bytes: exactly the next of the lines of the first logs of an input, or the rest of its report.
abbrev pub Due : Output → Type 0
Due o = ((logs : ℕ) × (total : ℕ) × Begun logs total o.handed o.page) ⊎ ((input : List ℕ) × OnPage (report_text input) o.handed o.page)

-- the bytes of an output are a number of 64 bits
abbrev pub Bounded : Output → Type 0
Bounded o = o.handed + held_count o.page < 2 ^ 64

-- What comes of it: only what was taken to its last byte has gone out, and the page is left; otherwise the page has the message.
abbrev pub HandedOver : Output → Output → Result (Unit {0}) Unwritten → Type 0
HandedOver o o' (Ok done) = (o'.handed ≡ o.handed + held_count o.page) × (o'.page ≡ o.page)
HandedOver o o' (Err unwritten) =
    (o'.handed ≡ o.handed)
    × ((sent : Result ℕ Failure) × (is_whole sent (held_count o.page) ≡ false) × Printed (unwritten_text (ended_behind o.handed sent) (o.handed + held_count o.page)) (Ok []) o'.page)

-- There is room for a line on the page: as there was, or since all that it held was handed over; or a part could not be written, and that
-- was told.
abbrev pub RoomMade : Output → Output → Result (Unit {0}) Unwritten → Type 0
RoomMade o o' (Ok done) =
    (held_count o'.page + most_line ≤ page_size) × (((o'.handed ≡ o.handed) × (o'.page ≡ o.page)) ⊎ ((o'.handed ≡ o.handed + held_count o.page) × (o'.page ≡ Ok [])))
RoomMade o o' (Err unwritten) = HandedOver o o' (Err unwritten)

-- How a report ends: it is made; a read failed, or there are too many logs, behind the lines of those before; or a part could not be
-- written, and that was told.
abbrev pub Reported : Output → Result (Unit {0}) Stop → Type 0
Reported o (Ok done) = Bounded o × ((input : List ℕ) × OnPage (report_text input) o.handed o.page)
Reported o (Err (Stopped failure)) = Bounded o × ((logs : ℕ) × (total : ℕ) × Begun logs total o.handed o.page)
Reported o (Err TooMany) = Bounded o × ((logs : ℕ) × (total : ℕ) × Begun logs total o.handed o.page)
Reported o (Err Told) = (before : Output) × (unwritten : Unwritten) × Due before × Bounded before × HandedOver before o (Err unwritten)
