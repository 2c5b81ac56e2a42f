-- A reading out of its text: what is wrong with a line, and which groups are stored.
-- Assumes nothing.
use Rattle.std.specs.Prelude.{ℕ, ◌+◌, Bool, cond, not, ◌&&◌, ◌||◌, eqb, Result, Ok, Err}
use Rattle.rectangular.specs.Constants.{numbers_per_group}
use Rattle.text.specs.declared.line.LineFault.{LineFault}
use Rattle.text.specs.declared.line.Row.{Row}
use Rattle.bench.specs.declared.reading.Cause.{Cause}
use Rattle.bench.specs.declared.reading.Cause.TheVariants.{Number, NotAGroup}

-- what is wrong with a line is wrong with the text
abbrev pub line_cause : LineFault → Cause
line_cause fault = Number fault.cause

-- a line of a 6250 reading has the numbers of a group and a map, or has no map, or is empty
abbrev pub row_length : ℕ
row_length = numbers_per_group + 1

abbrev pub group_numbers : ℕ → Result ℕ Cause
group_numbers numbers =
    cond (eqb numbers 0 || eqb numbers numbers_per_group || eqb numbers row_length) (Ok numbers) (Err (NotAGroup numbers))

-- a line that was read
abbrev pub group_line : Result Row LineFault → Result ℕ Cause
group_line (Ok row) = group_numbers row.count
group_line (Err fault) = Err (line_cause fault)

-- a line gives a group that is stored if it has numbers and there is space
abbrev pub is_stored : ℕ → ℕ → ℕ → Bool
is_stored numbers stored space = not (eqb numbers 0) && not (eqb stored space)
