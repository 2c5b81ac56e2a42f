-- What reading takes of the bytes that a reader has left, and what writing adds to those that a writer holds, where these are known.
-- Assumes nothing.
use Rattle.std.specs.Prelude.{ℕ, ◌≤◌, ◌<◌, List, [], length, take, Option, Result, Ok, Err}
use Rattle.std.specs.Io.KnownBytes.{Consumes, Appends, IsAtEnd}
use Rattle.page.specs.Page.{PageText}
use Rattle.transfer.specs.declared.Failure.{Failure}

-- An input that was read: its next bytes are the front of the space, each in its place, and where there is space left they are the
-- whole rest. One that a failure ended gave some bytes before.
abbrev pub WasRead : Result ℕ Failure → List ℕ → Option (List ℕ) → Option (List ℕ) → Type 0
WasRead (Ok count) space left left' = Consumes left left' (take count space) × (count < length space → IsAtEnd left')
WasRead (Err failure) space left left' = (count : ℕ) × (count ≤ length space) × Consumes left left' (take count space)

-- an output that was written: so many bytes from the front, each once; of one that a failure ended, some
abbrev pub WasWritten : Result ℕ Failure → List ℕ → Option (List ℕ) → Option (List ℕ) → Type 0
WasWritten (Ok count) bytes held held' = Appends held held' (take count bytes)
WasWritten (Err failure) bytes held held' = (count : ℕ) × (count ≤ length bytes) × Appends held held' (take count bytes)

-- what is handed over of a page: of a text that did not fit on it, nothing
abbrev pub on_page : PageText → List ℕ
on_page (Ok text) = text
on_page (Err text) = []
