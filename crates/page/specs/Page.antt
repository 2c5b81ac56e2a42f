-- What a page holds.
-- Assumes nothing.
use Rattle.std.specs.Prelude.{ℕ, suc, ◌+◌, ◌-◌, ◌^◌, ◌≤◌, ◌<◌, max, ◌≡◌, cond, List, ◌++◌, leb, ltb, length, take, Option, None, Some, Result, Ok, Err}
use Rattle.io.specs.Digits.{last_digits}
use Rattle.indexed.specs.List.{first_below}

-- how many bytes a page holds
abbrev pub page_size : ℕ
page_size = 65536

-- what a page holds: a text; once another did not fit behind it, the text that stays
abbrev pub PageText : Type 0
PageText = Result (List ℕ) (List ℕ)

-- the text at the front of a page
abbrev pub page_text : List ℕ → Result ℕ ℕ → PageText
page_text bytes (Ok held) = Ok (take held bytes)
page_text bytes (Err held) = Err (take held bytes)

-- what is held is within the page
abbrev pub InPage : Result ℕ ℕ → Type 0
InPage (Ok held) = held ≤ page_size
InPage (Err held) = held ≤ page_size

-- what is handed over of a page: none once a text did not fit
abbrev pub whole_text : PageText → Option (List ℕ)
whole_text (Ok text) = Some text
whole_text (Err text) = None

-- what can be read of it, also once a text did not fit
abbrev pub kept_text : PageText → List ℕ
kept_text (Ok text) = text
kept_text (Err text) = text

-- what is handed over once another text came behind: none once one did not fit, whatever comes behind it
unfoldable pub text_after : Option (List ℕ) → List ℕ → Option (List ℕ)
text_after None text = None
text_after (Some held) text = cond (leb (length text) (page_size - length held)) (Some (held ++ text)) None

-- how many bytes a page holds: once a text did not fit, more than there is space for
abbrev pub held_count : PageText → ℕ
held_count (Ok text) = length text
held_count (Err text) = page_size + 1

-- A text is put on a page behind what is held, before and after. Where the text does not fit, nothing of the page is handed over.
abbrev pub Printed : List ℕ → PageText → PageText → Type 0
Printed text page page' = whole_text page' ≡ text_after (whole_text page) text

-- A text that does not fit leaves what was held as it was. This is said of one text: of several, the first may fit.
abbrev pub Kept : List ℕ → PageText → PageText → Type 0
Kept text page page' = page_size < held_count page + length text → kept_text page' ≡ kept_text page

-- how many digits a number has in a base, and no fewer than the least; one of 64 bits has 20 at most
unfoldable pub places : ℕ → ℕ → ℕ → ℕ
places base least n = max least (first_below 20 (λ k. ltb n (base ^ suc k)) + 1)

-- a number in a base
unfoldable pub numeral : ℕ → ℕ → ℕ → List ℕ
numeral base least n = last_digits base (places base least n) n

abbrev pub decimal_text : ℕ → List ℕ
decimal_text = numeral 10 1

abbrev pub hexadecimal_text : ℕ → List ℕ
hexadecimal_text = numeral 16 2
