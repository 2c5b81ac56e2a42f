-- What moving nine words or a pointer map answers (document 01, "Head order" and "Where a call is turned down"), and what it answers by a
-- card (document 02, request 2.4).
-- Assumes nothing.
use Rattle.std.specs.Prelude.{ℕ, suc, cond, List, [], ◌∷◌, leb, ltb, eqb, length}
use Rattle.answer.specs.Answer.{Answer, delivered, refused_for}
use Rattle.slices.specs.Above.{first_above}
use Rattle.answer.specs.declared.Reason.TheVariants.{Length, Space, StrayBits, CardContent, CardLength}
use Rattle.rectangular.specs.Constants.{tracks, most_word, most_map}
use Rattle.track_order.specs.Card.{first_wrong}
use Rattle.track_order.specs.Order.{inverse}

-- ---- the checks, each before what is asked next

-- 1 and 2: nine words, and space for them
unfoldable pub if_nine_words : ℕ → ℕ → Answer → Answer
if_nine_words count space next = cond (eqb count tracks) (cond (leb tracks space) next (refused_for Space 0)) (refused_for Length 0)

-- 3, told with the lowest word in the source
unfoldable pub if_no_stray : List ℕ → Answer → Answer
if_no_stray source next = cond (ltb (first_above most_word source) tracks) (refused_for StrayBits (first_above most_word source)) next

-- 12: nine numbers on the card
unfoldable pub if_nine_numbers : List ℕ → Answer → Answer
if_nine_numbers card next = cond (eqb (length card) tracks) next (refused_for CardLength 0)

-- 11, told with the lowest physical track, 1 to 9, that has a wrong number
unfoldable pub if_none_wrong : List ℕ → Answer → Answer
if_none_wrong card next = cond (ltb (first_wrong card) tracks) (refused_for CardContent (suc (first_wrong card))) next

-- ---- the calls

-- nine words to a target with so much space: 1, 2, 3
unfoldable pub words_answer : List ℕ → ℕ → Answer
words_answer source space = if_nine_words (length source) space (if_no_stray source (delivered []))

-- a map that is moved so: refused only above 511, by 3 with place 0
unfoldable pub map_answer : (ℕ → ℕ) → ℕ → Answer
map_answer moved m = cond (leb m most_map) (delivered (moved m ∷ [])) (refused_for StrayBits 0)

-- "Checks run 12, 1, 2, 11, 3, for a map 12, 11, 3"
unfoldable pub card_words_answer : List ℕ → List ℕ → ℕ → Answer
card_words_answer card source space = if_nine_numbers card (if_nine_words (length source) space (if_none_wrong card (if_no_stray source (delivered []))))

unfoldable pub card_map_answer : List ℕ → (ℕ → ℕ) → ℕ → Answer
card_map_answer card moved m = if_nine_numbers card (if_none_wrong card (map_answer moved m))

-- the inverse card, whose checks are 12 and 11, is told number by number
unfoldable pub inverse_answer : List ℕ → Answer
inverse_answer card = if_nine_numbers card (if_none_wrong card (delivered (inverse card)))
