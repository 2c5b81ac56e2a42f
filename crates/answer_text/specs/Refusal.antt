-- What a program prints of a refusal (document 01, "Bench readings"): `refused`, its number and its place.
-- Assumes nothing.
use Rattle.std.specs.Prelude.{ℕ, List, ◌++◌}
use Rattle.page.specs.Ascii.{ascii}
use Rattle.page.specs.Page.{decimal_text}

abbrev pub refusal_text : ℕ → ℕ → List ℕ
refusal_text number place = ascii "refused " ++ decimal_text number ++ ascii " " ++ decimal_text place ++ ascii "\n"
