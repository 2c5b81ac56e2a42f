-- How long a line can be.
-- Assumes nothing.
use Prim.Native.Nat.{ℕ, ◌≤◌}
use mathlib.Core.List.{List, ◌++◌}
use native.Mathlib.Omega.{arith}
use lib.ListN.{length, length-append}
use Rattle.answer_text.specs.Refusal.{refusal_text}
use Rattle.page.specs.Ascii.{ascii}
use Rattle.page.specs.Page.{decimal_text}
use Rattle.page.proofs.Printed.{numeral_short}
use Rattle.report.specs.Report.{count_text, most_line}

decimal_short : (n : ℕ) → length (decimal_text n) ≤ 21
decimal_short n = numeral_short 10 1 n (omega arith)

pub count_short : (n : ℕ) → length (count_text n) ≤ 22
count_short n = omega (arith, length-append (decimal_text n) (ascii "\n"), decimal_short n)

pub refusal_short : (number place : ℕ) → length (refusal_text number place) ≤ most_line
refusal_short number place =
    let begun : List ℕ = ascii "refused " ++ decimal_text number in
    let spaced : List ℕ = begun ++ ascii " " in
    let placed : List ℕ = spaced ++ decimal_text place in
    omega (arith, length-append (ascii "refused ") (decimal_text number), length-append begun (ascii " "), length-append spaced (decimal_text place), length-append placed (ascii "\n"), decimal_short number, decimal_short place)
