-- What is told of a read or a write that failed.
-- Assumes nothing.
use Rattle.std.specs.Prelude.{ℕ, cond, List, [], ◌++◌, eqb, Result, Ok, Err}
use Rattle.page.specs.Ascii.{ascii}
use Rattle.page.specs.Page.{decimal_text}
use Rattle.transfer.specs.declared.Failure.{Failure}

-- what the usual errors mean: EINTR, EIO, EBADF, EAGAIN, EISDIR, EFBIG, ENOSPC, EPIPE
unfoldable pub meaning_text : ℕ → List ℕ
meaning_text number =
    cond (eqb number 4) (ascii ", interrupted")
    (cond (eqb number 5) (ascii ", the device failed")
    (cond (eqb number 9) (ascii ", it is closed or open the other way")
    (cond (eqb number 11) (ascii ", it is not ready")
    (cond (eqb number 21) (ascii ", it is a directory")
    (cond (eqb number 27) (ascii ", the file is at its limit")
    (cond (eqb number 28) (ascii ", no space is left")
    (cond (eqb number 32) (ascii ", nobody reads it") [])))))))

abbrev pub error_text : ℕ → List ℕ
error_text number = ascii "error " ++ decimal_text number ++ meaning_text number ++ ascii "\n"

abbrev pub cut_text : ℕ → ℕ → List ℕ
cut_text count all = ascii "cut behind " ++ decimal_text count ++ ascii " of " ++ decimal_text all ++ ascii " bytes\n"

abbrev pub unread_text : ℕ → List ℕ
unread_text number = ascii "cannot read standard input: " ++ error_text number

-- of an output of so many bytes
abbrev pub unwritten_text : Result ℕ Failure → ℕ → List ℕ
unwritten_text (Ok count) all = ascii "cannot write standard output: " ++ cut_text count all
unwritten_text (Err failure) all = ascii "cannot write standard output: " ++ error_text failure.number
