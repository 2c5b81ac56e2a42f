-- The answers, by their checks: a good card adds none, what is delivered passed them all, and 11 is given exactly if the card is not good.
-- Assumes nothing.
use mathlib.Core.Path.{◌≡◌, refl, sym, ap, ◌∙◌}
use mathlib.Core.Bool.{Bool, true, false, cond}
use mathlib.Core.List.{List, [], ◌∷◌}
use Prim.Native.Nat.{ℕ, suc, ◌<◌, ◌≤◌}
use native.Mathlib.Omega.{arith}
use borrow.Author.Tests.{eqb-true, le-leb, lt-leb, leb-true, ltb-true, ltb-false}
use lib.Dec.{eqb, leb, ltb}
use lib.ListN.{length}
use Rattle.answer.specs.Answer.{Answer, delivered, refused, refused_for}
use Rattle.answer.proofs.Apart.{not_both, same_place}
use Rattle.answer.proofs.Passed.{test_held, test_failed, held_before, failed_before}
use Rattle.answer.specs.declared.Reason.TheVariants.{Length, Space, StrayBits, CardContent, CardLength}
use Rattle.slices.specs.Above.{first_above}
use Rattle.track_order.specs.Card.{Good, first_wrong}
use Rattle.track_order.specs.Moved.{if_nine_words, if_no_stray, if_nine_numbers, if_none_wrong, words_answer, map_answer, card_words_answer, card_map_answer, inverse_answer}
use Rattle.track_order.specs.Order.{inverse}
use Rattle.track_order.proofs.Card.{good_none_wrong, none_wrong_good, bad_wrong}
use Rattle.track_order.proofs.Rows.{card_nine, card_content, card_right, words_fit}

module _ (moved : ℕ → ℕ) (m : ℕ) where
  pub map_refused : 511 < m → refused_for StrayBits 0 ≡ map_answer moved m
  unfolding map_answer
  map_refused h = sym (ap (λ (b : Bool). cond b (delivered (moved m ∷ [])) (refused_for StrayBits 0)) (lt-leb m 511 h))

  pub map_delivered : m ≤ 511 → (r : ℕ) → r ≡ moved m → delivered (r ∷ []) ≡ map_answer moved m
  unfolding map_answer
  map_delivered h r e =
      ap (λ (x : ℕ). delivered (x ∷ [])) e
      ∙ sym (ap (λ (b : Bool). cond b (delivered (moved m ∷ [])) (refused_for StrayBits 0)) (le-leb m 511 h))

-- ---- the checks of a card

module _ (card : List ℕ) (next : Answer) where
  -- a good card passes both
  good_numbers : Good card → if_nine_numbers card next ≡ next
  good_numbers good = card_nine card next good.nine_numbers

  good_right : Good card → if_none_wrong card next ≡ next
  good_right good = card_right card next (omega (arith, good_none_wrong card good))

  -- and where nothing else is, what is refused by 11 is no good card
  wrong_told : (place : ℕ) → ((q : ℕ) → next ≡ refused_for CardContent q → ⊥) → if_none_wrong card next ≡ refused_for CardContent place
      → (Good card → ⊥) × (place ≡ suc (first_wrong card))
  unfolding if_none_wrong
  wrong_told place never e = by (ltb (first_wrong card) 9) refl e
    where
      by : (b : Bool) → ltb (first_wrong card) 9 ≡ b → cond b (refused_for CardContent (suc (first_wrong card))) next ≡ refused_for CardContent place
          → (Good card → ⊥) × (place ≡ suc (first_wrong card))
      by true h r = (λ good. omega (arith, ltb-true (first_wrong card) 9 h, good_none_wrong card good), sym (same_place 11 11 _ place r))
      by false h r = absurd (never place r)

  -- what is delivered passed both
  pub numbers_passed : (figures : List ℕ) → if_nine_numbers card next ≡ delivered figures → (length card ≡ 9) × (next ≡ delivered figures)
  unfolding if_nine_numbers
  numbers_passed figures e = let held = test_held (eqb (length card) 9) next 12 0 figures e in (eqb-true _ 9 held.0, held.1)

  right_passed : (figures : List ℕ) → if_none_wrong card next ≡ delivered figures → (9 ≤ first_wrong card) × (next ≡ delivered figures)
  unfolding if_none_wrong
  right_passed figures e =
      let failed = test_failed (ltb (first_wrong card) 9) next 11 (suc (first_wrong card)) figures e in (ltb-false _ 9 failed.0, failed.1)

-- what is refused by 12 does not hang on what is asked next
pub numbers_refused : (card figures : List ℕ) (next : Answer) (n p : ℕ) → if_nine_numbers card (delivered figures) ≡ refused n p
    → if_nine_numbers card next ≡ refused n p
unfolding if_nine_numbers
numbers_refused card figures next n p e = by (eqb (length card) 9) e
  where
    by : (b : Bool) → cond b (delivered figures) (refused_for CardLength 0) ≡ refused n p → cond b next (refused_for CardLength 0) ≡ refused n p
    by true e = absurd (not_both figures n p e)
    by false e = e

-- ---- nine words

pub sizes_passed : (count space : ℕ) (next : Answer) (figures : List ℕ) → if_nine_words count space next ≡ delivered figures
    → (count ≡ 9) × (9 ≤ space) × (next ≡ delivered figures)
unfolding if_nine_words
sizes_passed count space next figures e =
    let counted = test_held (eqb count 9) _ 1 0 figures e in
    let held = test_held (leb 9 space) next 2 0 figures counted.1 in
    (eqb-true _ 9 counted.0, leb-true 9 space held.0, held.1)

-- all that is asked before the words themselves
pub all_passed : (card : List ℕ) (count space : ℕ) (next : Answer) (figures : List ℕ)
    → if_nine_numbers card (if_nine_words count space (if_none_wrong card next)) ≡ delivered figures
    → Good card × (count ≡ 9) × (9 ≤ space) × (next ≡ delivered figures)
all_passed card count space next figures e =
    let numbers = numbers_passed card _ figures e in
    let sizes = sizes_passed count space _ figures numbers.1 in
    let right = right_passed card next figures sizes.2 in
    (none_wrong_good card numbers.0 right.0, sizes.0, sizes.1, right.1)

module _ (source : List ℕ) (space : ℕ) where
  module _ (card : List ℕ) where
    -- by a good card, the standard one among them, the answer is document 01's
    pub good_words : Good card → card_words_answer card source space ≡ words_answer source space
    unfolding card_words_answer words_answer
    good_words good =
        good_numbers card _ good ∙ ap (if_nine_words (length source) space) (good_right card (if_no_stray source (delivered [])) good)

    pub words_passed : (figures : List ℕ) → card_words_answer card source space ≡ delivered figures
        → Good card × (length source ≡ 9) × (9 ≤ space) × (9 ≤ first_above 1023 source) × (figures ≡ [])
    unfolding card_words_answer if_no_stray
    words_passed figures e =
        let passed = all_passed card (length source) space _ figures e in
        let clean = test_failed (ltb (first_above 1023 source) 9) (delivered []) 3 (first_above 1023 source) figures passed.3 in
        (passed.0, passed.1, passed.2, ltb-false _ 9 clean.0, cc)

    -- what is refused by 12, 1, 2 or 11 does not hang on the words
    pub words_refused : (figures : List ℕ) (n p : ℕ)
        → if_nine_numbers card (if_nine_words (length source) space (if_none_wrong card (delivered figures))) ≡ refused n p
        → card_words_answer card source space ≡ refused n p
    unfolding card_words_answer if_nine_numbers if_nine_words if_none_wrong
    words_refused figures n p e = by (eqb (length card) 9) (eqb (length source) 9) (leb 9 space) (ltb (first_wrong card) 9) e
      where
        asked : Bool → Bool → Bool → Bool → Answer → Answer
        asked s t u v next =
            cond s (cond t (cond u (cond v (refused_for CardContent (suc (first_wrong card))) next) (refused_for Space 0)) (refused_for Length 0))
            (refused_for CardLength 0)

        by : (s t u v : Bool) → asked s t u v (delivered figures) ≡ refused n p → asked s t u v (if_no_stray source (delivered [])) ≡ refused n p
        by true true true true e = e
        by true true true false e = absurd (not_both figures n p e)
        by true true false v e = e
        by true false u v e = e
        by false t u v e = e

    -- 11 is given exactly if the card is not good, once its length, the words' and the space have passed
    pub words_wrong : length card ≡ 9 → length source ≡ 9 → 9 ≤ space → (Good card → ⊥)
        → card_words_answer card source space ≡ refused_for CardContent (suc (first_wrong card))
    unfolding card_words_answer
    words_wrong nine words enough bad =
        card_nine card _ nine ∙ words_fit (length source) space _ words enough ∙ card_content card _ (bad_wrong card nine bad)

    pub wrong_words : (place : ℕ) → card_words_answer card source space ≡ refused_for CardContent place
        → (length card ≡ 9) × (length source ≡ 9) × (9 ≤ space) × (Good card → ⊥) × (place ≡ suc (first_wrong card))
    unfolding card_words_answer if_nine_numbers if_nine_words if_no_stray
    wrong_words place e =
        let numbers = held_before (eqb (length card) 9) _ 12 0 11 place (λ z. omega arith) e in
        let words = held_before (eqb (length source) 9) _ 1 0 11 place (λ z. omega arith) numbers.1 in
        let enough = held_before (leb 9 space) _ 2 0 11 place (λ z. omega arith) words.1 in
        let wrong = wrong_told card _ place (λ q r. not_both [] 11 q
        (failed_before (ltb (first_above 1023 source) 9) (delivered []) 3 (first_above 1023 source) 11 q (λ z. omega arith) r).1) enough.1 in
        (eqb-true _ 9 numbers.0, eqb-true _ 9 words.0, leb-true 9 space enough.0, wrong.0, wrong.1)

-- ---- a map, and the inverse card: what is asked is the card alone, and then the map

module _ (card : List ℕ) where
  module _ (next : Answer) where
    good_card : Good card → if_nine_numbers card (if_none_wrong card next) ≡ next
    good_card good = good_numbers card _ good ∙ good_right card next good

    pub card_passed : (figures : List ℕ) → if_nine_numbers card (if_none_wrong card next) ≡ delivered figures → Good card × (next ≡ delivered figures)
    card_passed figures e =
        let numbers = numbers_passed card _ figures e in
        let right = right_passed card next figures numbers.1 in
        (none_wrong_good card numbers.0 right.0, right.1)

    -- what a card is refused for does not hang on what is asked next
    pub card_refused : (figures : List ℕ) (n p : ℕ) → if_nine_numbers card (if_none_wrong card (delivered figures)) ≡ refused n p
        → if_nine_numbers card (if_none_wrong card next) ≡ refused n p
    unfolding if_nine_numbers if_none_wrong
    card_refused figures n p e = by (eqb (length card) 9) (ltb (first_wrong card) 9) e
      where
        by : (s t : Bool)
            → cond s (cond t (refused_for CardContent (suc (first_wrong card))) (delivered figures)) (refused_for CardLength 0) ≡ refused n p
            → cond s (cond t (refused_for CardContent (suc (first_wrong card))) next) (refused_for CardLength 0) ≡ refused n p
        by true true e = e
        by true false e = absurd (not_both figures n p e)
        by false t e = e

    -- 11 is given exactly if the card is not good, once its length has passed
    card_wrong : length card ≡ 9 → (Good card → ⊥)
        → if_nine_numbers card (if_none_wrong card next) ≡ refused_for CardContent (suc (first_wrong card))
    card_wrong nine bad = card_nine card _ nine ∙ card_content card next (bad_wrong card nine bad)

    wrong_card : (place : ℕ) → ((q : ℕ) → next ≡ refused_for CardContent q → ⊥)
        → if_nine_numbers card (if_none_wrong card next) ≡ refused_for CardContent place
        → (length card ≡ 9) × (Good card → ⊥) × (place ≡ suc (first_wrong card))
    unfolding if_nine_numbers
    wrong_card place never e =
        let numbers = held_before (eqb (length card) 9) _ 12 0 11 place (λ z. omega arith) e in
        let wrong = wrong_told card next place never numbers.1 in
        (eqb-true _ 9 numbers.0, wrong.0, wrong.1)

  module _ (moved : ℕ → ℕ) (m : ℕ) where
    pub good_map : Good card → card_map_answer card moved m ≡ map_answer moved m
    unfolding card_map_answer
    good_map = good_card (map_answer moved m)

    pub map_passed : (figures : List ℕ) → card_map_answer card moved m ≡ delivered figures → Good card × (m ≤ 511) × (delivered (moved m ∷ []) ≡ delivered figures)
    unfolding card_map_answer map_answer
    map_passed figures e =
        let passed = card_passed (map_answer moved m) figures e in
        let held = test_held (leb m 511) (delivered (moved m ∷ [])) 3 0 figures passed.1 in
        (passed.0, leb-true m 511 held.0, held.1)

    pub map_wrong : length card ≡ 9 → (Good card → ⊥) → card_map_answer card moved m ≡ refused_for CardContent (suc (first_wrong card))
    unfolding card_map_answer
    map_wrong = card_wrong (map_answer moved m)

    pub wrong_map : (place : ℕ) → card_map_answer card moved m ≡ refused_for CardContent place
        → (length card ≡ 9) × (Good card → ⊥) × (place ≡ suc (first_wrong card))
    unfolding card_map_answer map_answer
    wrong_map place =
        wrong_card (map_answer moved m) place
        (λ q r. not_both (moved m ∷ []) 11 q (held_before (leb m 511) (delivered (moved m ∷ [])) 3 0 11 q (λ z. omega arith) r).1)

  pub good_inverse : Good card → inverse_answer card ≡ delivered (inverse card)
  unfolding inverse_answer
  good_inverse = good_card (delivered (inverse card))

  pub inverse_passed : (figures : List ℕ) → inverse_answer card ≡ delivered figures → Good card × (delivered (inverse card) ≡ delivered figures)
  unfolding inverse_answer
  inverse_passed = card_passed (delivered (inverse card))

  pub inverse_wrong : length card ≡ 9 → (Good card → ⊥) → inverse_answer card ≡ refused_for CardContent (suc (first_wrong card))
  unfolding inverse_answer
  inverse_wrong = card_wrong (delivered (inverse card))

  pub wrong_inverse : (place : ℕ) → inverse_answer card ≡ refused_for CardContent place
      → (length card ≡ 9) × (Good card → ⊥) × (place ≡ suc (first_wrong card))
  unfolding inverse_answer
  wrong_inverse place = wrong_card (delivered (inverse card)) place (λ q r. not_both (inverse card) 11 q r)
