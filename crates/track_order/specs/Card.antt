-- Wiring cards (document 02, request 2.4): "a card of nine numbers: for physical tracks 1 to 9 the algebraic track". The number of physical
-- track p stands at index p − 1.
-- Assumes nothing.
use Rattle.std.specs.Prelude.{ℕ, ◌<◌, Bool, ◌||◌, List, ◌≡◌, leb, length, get_or}
use Rattle.indexed.specs.List.{first_where, occurrences}
use Rattle.rectangular.specs.Constants.{tracks}

-- a good card: nine numbers, none above 8 and none on two tracks
pub record Good (card : List ℕ) : Type 0 where
  pub nine_numbers : length card ≡ tracks
  pub within : (k : ℕ) → k < tracks → get_or card k 0 < tracks
  pub apart : (j k : ℕ) → j < tracks → k < tracks → get_or card j 0 ≡ get_or card k 0 → j ≡ k

-- an inverse card, "which gives for algebraic tracks 0 to 8 the physical track less 1"
pub record InverseCard (card back : List ℕ) : Type 0 where
  pub nine_back : length back ≡ tracks
  pub on_head : (a : ℕ) → a < tracks → get_or back a 0 < tracks
  pub has_track : (a : ℕ) → a < tracks → get_or card (get_or back a 0) 0 ≡ a

-- on how many tracks a number stands
abbrev pub tracks_with : List ℕ → ℕ → ℕ
tracks_with card a = occurrences (length card) (λ k. get_or card k 0) a

-- "a number is above 8 or stands on two tracks"
unfoldable pub wrong_number : List ℕ → ℕ → Bool
wrong_number card a = leb tracks a || leb 2 (tracks_with card a)

-- the index of "the lowest physical track that has such a number", or how many numbers there are where none has
unfoldable pub first_wrong : List ℕ → ℕ
first_wrong card = first_where (wrong_number card) card
