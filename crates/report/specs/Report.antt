-- What the report program prints (document 02, request 2.1): it "reads logs from standard input, each after its group count and its length,
-- two bytes each, low one first. It lends 65,535 maps, so it never prints a 2. It prints a line with the number of marks of each, then
-- one with their total; at the first bad log or cut input it prints `refused`, the number (9 if cut) and 0, and stops."
-- Assumes nothing.
use Rattle.std.specs.Prelude.{ℕ, zero, suc, ◌+◌, cond, List, [], ◌++◌, eqb, ltb, length, take, drop}
use Rattle.answer.specs.Answer.{Answer, delivered, refused, number_of}
use Rattle.answer.specs.declared.Reason.TheVariants.{LogLength}
use Rattle.answer_text.specs.Refusal.{refusal_text}
use Rattle.sense_log.specs.Pair.{pair_at}
use Rattle.page.specs.Ascii.{ascii}
use Rattle.page.specs.Page.{decimal_text}
use Rattle.sense_log.specs.Back.{maps_of, read_log_answer}
use Rattle.sense_log.specs.Log.{marks}

-- the maps that are lent, and the bytes that a log's length can tell of
abbrev pub maps_lent : ℕ
maps_lent = 65535

abbrev pub most_bytes : ℕ
most_bytes = 65535

-- nine track bits in each of 586 groups
abbrev pub most_marks : ℕ
most_marks = 5274

-- no line is longer
abbrev pub most_line : ℕ
most_line = 64

-- the bytes in front of a log
abbrev pub heading_length : ℕ
heading_length = 4

-- what a log of so many groups is answered, and its marks
abbrev pub answer_of : ℕ → List ℕ → Answer
answer_of groups log = read_log_answer groups log maps_lent

abbrev pub marks_of : ℕ → List ℕ → ℕ
marks_of groups log = marks (maps_of groups log)

-- the line of a log's marks or of the total, and that of cut input
abbrev pub count_text : ℕ → List ℕ
count_text count = decimal_text count ++ ascii "\n"

abbrev pub cut_text : List ℕ
cut_text = refusal_text (number_of LogLength) 0

-- the line of a log that is answered so, and what is printed behind it
abbrev pub log_text : Answer → ℕ → List ℕ → List ℕ
log_text (delivered figures) count others = count_text count ++ others
log_text (refused number place) count others = refusal_text number place

-- the group count and the length of the log at the front of an input, and the log itself
abbrev pub groups_at : List ℕ → ℕ
groups_at input = pair_at input 0

abbrev pub length_at : List ℕ → ℕ
length_at input = pair_at input 2

abbrev pub log_at : List ℕ → List ℕ
log_at input = take (length_at input) (drop heading_length input)

-- the report of an input, once the logs before it had so many marks; the recursion is on a number of logs to go
unfoldable pub report_from : ℕ → ℕ → List ℕ → List ℕ
report_from zero total input = []
report_from (suc logs) total input =
    cond (eqb (length input) 0) (count_text total)
    (cond (ltb (length input) (heading_length + length_at input)) cut_text
    (log_text (answer_of (groups_at input) (log_at input)) (marks_of (groups_at input) (log_at input))
    (report_from logs (total + marks_of (groups_at input) (log_at input)) (drop (heading_length + length_at input) input))))

-- the report of the whole input, which has fewer logs than bytes
abbrev pub report_text : List ℕ → List ℕ
report_text input = report_from (suc (length input)) 0 input

-- what is told of an input with more logs than are counted
abbrev pub too_many_text : List ℕ
too_many_text = ascii "cannot report more than 2251799813685248 logs\n"
