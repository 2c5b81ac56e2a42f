-- A line of numbers out of text: what is read of it, and the numbers that are stored.
-- Assumes nothing.
use Rattle.std.specs.Prelude.{ℕ, zero, suc, ◌+◌, cond, List, eqb, leb, length, get_or, drop, set, Result, Ok, Err}
use Rattle.text.specs.Number.{separating, scanned}
use Rattle.text.specs.declared.line.LineFault.{LineFault}
use Rattle.text.specs.declared.line.Row.{Row}
use Rattle.text.specs.declared.number.NumberFault.{NumberFault}

abbrev pub row_of : ℕ → ℕ → Row
row_of count end = record { count = count; end = end }

abbrev pub fault_of : NumberFault → Row → LineFault
fault_of cause before = record { cause = cause; before = before }

-- so much of a line as was read, to its end or to what is wrong with it
abbrev pub row_told : Result Row LineFault → Row
row_told (Ok row) = row
row_told (Err fault) = fault.before

-- what comes of a number, or of what is wrong with it
abbrev pub on_number : {A : Type 0} → Result ℕ NumberFault → (ℕ → A) → (NumberFault → A) → A
on_number (Ok value) numbered faulty = numbered value
on_number (Err cause) numbered faulty = faulty cause

-- The line from a place on, once so many of its numbers are stored. It ends at a newline, where the text ends, or at the first
-- number that is none or is too large; blanks are passed over. Each turn passes a byte at least, so that as many turns suffice as
-- the text has bytes.
unfoldable pub line_from : ℕ → List ℕ → ℕ → ℕ → List ℕ → Result Row LineFault × List ℕ
line_from zero text count end row = (Ok (row_of count end), row)
line_from (suc turns) text count end row =
    let number = scanned (Ok 0) end (drop end text) in
    cond (leb (length text) end) (Ok (row_of count end), row)
    (cond (eqb (get_or text end 0) 10) (Ok (row_of count end), row)
    (cond (separating (get_or text end 0)) (line_from turns text count (end + 1) row)
    (on_number number.value
    (λ value. line_from turns text (count + 1) number.end (set row count value))
    (λ cause. (Err (fault_of cause (row_of count end)), row)))))

-- the line that begins at a place, and the row once its numbers are stored at the front, as many as the row holds
abbrev pub line_at : List ℕ → ℕ → List ℕ → Result Row LineFault × List ℕ
line_at text at row = line_from (length text) text 0 at row
