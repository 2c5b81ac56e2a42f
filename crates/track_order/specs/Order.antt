-- Head order (document 000, note 11; document 01, "Head order"). In a list of nine, physical track p, 1 to 9, stands at
-- index p − 1, and algebraic track a, 0 to 8, at index a.
-- Assumes nothing.
use Rattle.std.specs.Prelude.{ℕ, ◌<◌, ◌≡◌, List, [], ◌∷◌, eqb, length, get_or}
use Rattle.indexed.specs.List.{tabulate, first_where}
use Rattle.register.specs.Bit.{bits_of, of_bits}
use Rattle.rectangular.specs.Constants.{tracks}
use Rattle.track_order.specs.declared.Toward.{Toward}
use Rattle.track_order.specs.declared.Toward.TheVariants.{Physical, Algebraic}

-- the standard card: for physical tracks 1 to 9 the algebraic track by note 11, the P track being 8
unfoldable pub standard_card : List ℕ
standard_card = 1 ∷ 4 ∷ 7 ∷ 8 ∷ 3 ∷ 6 ∷ 0 ∷ 2 ∷ 5 ∷ []

-- the index at which a number first stands
unfoldable pub index_in : List ℕ → ℕ → ℕ
index_in places a = first_where (λ b. eqb b a) places

-- for algebraic tracks 0 to 8, the index of the physical track that has it
unfoldable pub inverse : List ℕ → List ℕ
inverse places = tabulate tracks (λ a. index_in places a)

-- nine places that are 0 to 8, each once
pub record Permutation (places : List ℕ) : Type 0 where
  pub nine : length places ≡ tracks
  pub below : (k : ℕ) → k < tracks → get_or places k 0 < tracks
  pub once : (k : ℕ) → k < tracks → index_in places (get_or places k 0) ≡ k
  pub onto : (a : ℕ) → a < tracks → index_in places a < tracks

-- the nine elements at the nine places
unfoldable pub arranged : List ℕ → List ℕ → List ℕ
arranged places elements = tabulate tracks (λ k. get_or elements (get_or places k 0) 0)

-- a pointer map, moved as its nine bits are
unfoldable pub arranged_map : List ℕ → ℕ → ℕ
arranged_map places m = of_bits (arranged places (bits_of tracks m))

-- the way to an order: for each of its nine places, the place to take from. To the head's order it is the card, to the code's the card's
-- inverse.
abbrev pub way : Toward → List ℕ → List ℕ
way Physical card = card
way Algebraic card = inverse card

-- the other order, from which numbers are moved there
abbrev pub back : Toward → Toward
back Physical = Algebraic
back Algebraic = Physical

-- nine words, and a pointer map, moved by a card
abbrev pub moved_words : Toward → List ℕ → List ℕ → List ℕ
moved_words toward card words = arranged (way toward card) words

abbrev pub moved_map : Toward → List ℕ → ℕ → ℕ
moved_map toward card m = arranged_map (way toward card) m
