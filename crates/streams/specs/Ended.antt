-- What is known of a text that was handed over.
-- Assumes nothing.
use Rattle.std.specs.Prelude.{ℕ, ◌+◌, ◌≤◌, ◌≡◌, Bool, true, false, List, [], eqb, Result, Ok, Err, IfOk}
use Rattle.transfer.specs.declared.Failure.{Failure}
use Rattle.page.specs.Page.{PageText, Printed, held_count}
use Rattle.streams.specs.Message.{unwritten_text}
use Rattle.streams.specs.declared.Text.{Text}
use Rattle.streams.specs.declared.Text.TheVariants.{Output, Message}

-- what was taken is of what was handed over
abbrev pub Taken : Result ℕ Failure → ℕ → Type 0
Taken sent all = IfOk sent (λ count. count ≤ all)

-- only a text that was taken to its last byte is whole
abbrev pub is_whole : Result ℕ Failure → ℕ → Bool
is_whole (Ok count) all = eqb count all
is_whole (Err failure) all = false

-- what is on a page once a text was handed over: what was there, or the message that it could not be written
abbrev pub Left : Bool → List ℕ → PageText → PageText → Type 0
Left true message page page' = page' ≡ page
Left false message page page' = Printed message (Ok []) page'

-- how an output ended, of which so many bytes had gone out before
abbrev pub ended_behind : ℕ → Result ℕ Failure → Result ℕ Failure
ended_behind earlier (Ok count) = Ok (earlier + count)
ended_behind earlier (Err failure) = Err failure

-- what comes of handing over a part of an output, behind so many bytes that were handed over before: what is on the page then
abbrev pub Passed : ℕ → PageText → PageText → Result ℕ Failure → Type 0
Passed earlier page page' sent =
    Taken sent (held_count page) × Left (is_whole sent (held_count page)) (unwritten_text (ended_behind earlier sent) (earlier + held_count page)) page page'

abbrev pub Finished : Text → PageText → PageText → Result ℕ Failure → Type 0
Finished Output page page' sent = Taken sent (held_count page) × Left (is_whole sent (held_count page)) (unwritten_text sent (held_count page)) page page'
Finished Message page page' sent = Taken sent (held_count page) × (page' ≡ page)

-- a text is put on a page, and nothing else, for standard output
abbrev pub Prints : List ℕ → PageText → Text → Type 0
Prints text page Output = Printed text (Ok []) page
Prints text page Message = ⊥

-- and for standard error
abbrev pub Tells : List ℕ → PageText → Text → Type 0
Tells text page Output = ⊥
Tells text page Message = Printed text (Ok []) page
