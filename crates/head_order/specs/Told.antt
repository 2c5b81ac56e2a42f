-- What the code tells of moving nine words or a pointer map, and of inverting a card.
-- Assumes nothing.
use Rattle.std.specs.Prelude.{List, [], ◌∷◌, ℕ, Result}
use Rattle.answer.specs.Answer.{Answer, told}
use Rattle.answer.specs.declared.Refusal.{Refusal}

-- with the figures that are stored: of words none, of a card the nine numbers
abbrev pub told_stored : Result Unit Refusal → List ℕ → Answer
told_stored result figures = told (λ stored. figures) result

-- the moved map is told
abbrev pub told_map : Result ℕ Refusal → Answer
told_map = told (λ m. m ∷ [])
