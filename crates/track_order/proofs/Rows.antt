-- The answers row by row: what a call tells where the tests before a check have passed and that check fails, or all have passed.
-- Assumes nothing.
use mathlib.Core.List.{List, []}
use mathlib.Core.Path.{◌≡◌, sym, ap, ◌∙◌}
use Prim.Native.Nat.{ℕ, suc, ◌<◌, ◌≤◌}
use native.Mathlib.Omega.{arith}
use borrow.Author.Tests.{eq-eqb, ne_eqb, le-leb, lt-leb, lt-ltb, le-ltb}
use lib.ListN.{length}
use Rattle.std.proofs.Common.{Some, None}
use Rattle.indexed.specs.List.{index_in}
use Rattle.indexed.proofs.Found.{found_index, found_none}
use Rattle.answer.specs.Answer.{Answer, delivered, refused_for}
use Rattle.answer.specs.declared.Reason.TheVariants.{Length, Space, StrayBits, CardContent, CardLength}
use Rattle.slices.specs.Above.{first_above}
use Rattle.track_order.specs.Card.{first_wrong}
use Rattle.track_order.specs.Moved.{if_nine_words, if_no_stray, if_nine_numbers, if_none_wrong, words_answer}

-- ---- a card, whatever is asked next

module _ (card : List ℕ) (next : Answer) where
  pub card_length : (length card ≡ 9 → ⊥) → if_nine_numbers card next ≡ refused_for CardLength 0
  unfolding if_nine_numbers
  card_length long = simp (ne_eqb _ _ long)

  pub card_nine : length card ≡ 9 → if_nine_numbers card next ≡ next
  unfolding if_nine_numbers
  card_nine nine = simp (eq-eqb _ _ nine)

  pub card_content : first_wrong card < 9 → if_none_wrong card next ≡ refused_for CardContent (suc (first_wrong card))
  unfolding if_none_wrong
  card_content wrong = simp (lt-ltb _ _ wrong)

  pub card_right : 9 ≤ first_wrong card → if_none_wrong card next ≡ next
  unfolding if_none_wrong
  card_right none = simp (le-ltb _ _ none)

-- ---- how many words, and how much space for them

module _ (count space : ℕ) (next : Answer) where
  pub words_length : (count ≡ 9 → ⊥) → if_nine_words count space next ≡ refused_for Length 0
  unfolding if_nine_words
  words_length long = simp (ne_eqb _ _ long)

  pub words_space : count ≡ 9 → space < 9 → if_nine_words count space next ≡ refused_for Space 0
  unfolding if_nine_words
  words_space nine short = simp (eq-eqb _ _ nine, lt-leb _ _ short)

  pub words_fit : count ≡ 9 → 9 ≤ space → if_nine_words count space next ≡ next
  unfolding if_nine_words
  words_fit nine enough = simp (eq-eqb _ _ nine, le-leb _ _ enough)

-- ---- stray bits

module _ (source : List ℕ) (space : ℕ) (nine : length source ≡ 9) (enough : 9 ≤ space) where
  pub words_stray : first_above 1023 source < 9 → words_answer source space ≡ refused_for StrayBits (first_above 1023 source)
  unfolding words_answer if_nine_words if_no_stray
  words_stray stray = simp (eq-eqb _ _ nine, le-leb _ _ enough, lt-ltb _ _ stray)

  pub words_delivered : 9 ≤ first_above 1023 source → words_answer source space ≡ delivered []
  unfolding words_answer if_nine_words if_no_stray
  words_delivered clean = simp (eq-eqb _ _ nine, le-leb _ _ enough, le-ltb _ _ clean)

  -- as a search for the first stray word tells
  pub words_found : (place : ℕ) → Some place ≡ index_in (length source) (first_above 1023 source) → words_answer source space ≡ refused_for StrayBits place
  words_found place e =
      let at = found_index (length source) (first_above 1023 source) place e in
      words_stray (rw nine at at.1) ∙ ap (refused_for StrayBits) (sym at.0)

  pub words_clean : None ≡ index_in (length source) (first_above 1023 source) → words_answer source space ≡ delivered []
  words_clean e = words_delivered (omega (arith, nine, found_none (length source) (first_above 1023 source) e))
