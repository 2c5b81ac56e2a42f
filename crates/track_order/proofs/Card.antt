-- Wiring cards (document 02, request 2.4): a good card is a permutation, it has one inverse card, which is good too, and where the first wrong
-- number stands tells whether a card is good. The standard card is.
-- Assumes nothing.
use mathlib.Core.Bool.{false, ◌||◌}
use mathlib.Core.List.{List}
use mathlib.Core.Path.{◌≡◌, refl, sym, ap, ap₂, ◌∙◌}
use Prim.Native.Nat.{ℕ, ◌<◌, ◌≤◌}
use native.Mathlib.Decide.{dec_lt}
use native.Mathlib.Omega.{arith}
use borrow.Author.Tests.{eq-eqb, ne_eqb, lt-leb, leb-false}
use lib.Dec.{eqb, leb}
use lib.ListN.{length, get_or}
use Rattle.indexed.specs.List.{total, first_where, occurrences}
use Rattle.indexed.proofs.First.{first_at, first_none, first_before, first_found}
use Rattle.indexed.proofs.Onto.{occurs_twice, occurs_once, same_place, every_value}
use Rattle.indexed.proofs.Test.{both_false}
use Rattle.track_order.specs.Card.{Good, InverseCard, tracks_with, wrong_number, first_wrong}
use Rattle.track_order.specs.Order.{standard_card, index_in, inverse, Permutation}
use Rattle.track_order.proofs.Order.{same_nine, at_index, length_inverse, get_or_inverse, inverse_below, inverse_permutation}

-- ---- a good card is a permutation, and the other way

module _ (card : List ℕ) (good : Good card) where
  found_at : (k : ℕ) → k < 9 → index_in card (get_or card k 0) ≡ k
  unfolding index_in
  found_at k h =
      first_at (λ b. eqb b (get_or card k 0)) card k (rw good.nine_numbers h)
      (λ j less. ne_eqb _ _ (λ e. let same = good.apart j k (omega arith) h e in omega arith)) (eq-eqb (get_or card k 0) (get_or card k 0) refl)

  -- nine numbers below nine, no two the same, are all numbers below nine
  found_for : (a : ℕ) → a < 9 → index_in card a < 9
  unfolding index_in
  found_for a h =
      let at = every_value 9 (λ k. get_or card k 0) good.within good.apart a h in
      rw good.nine_numbers at (first_found (λ b. eqb b a) card at.0 (rw good.nine_numbers at.1) (eq-eqb _ _ at.2))

  pub good_permutation : Permutation card
  good_permutation = record { nine = good.nine_numbers; below = good.within; once = found_at; onto = found_for }

pub permutation_good : (card : List ℕ) → Permutation card → Good card
permutation_good card p = record {
  nine_numbers = p.nine;
  within = p.below;
  apart = λ j k hj hk e. sym (p.once j hj) ∙ ap (index_in card) e ∙ p.once k hk;
}

-- ---- its one inverse card

module _ (card : List ℕ) (good : Good card) where
  abbrev places : Permutation card
  places = good_permutation card good

  has_back : (a : ℕ) → a < 9 → get_or card (get_or (inverse card) a 0) 0 ≡ a
  has_back a h = ap (λ (k : ℕ). get_or card k 0) (get_or_inverse card places a h) ∙ at_index card places a (places.onto a h)

  pub inverse_card : InverseCard card (inverse card)
  inverse_card = record { nine_back = length_inverse card places; on_head = inverse_below card places; has_track = has_back }

  pub one_inverse : (back : List ℕ) → InverseCard card back → back ≡ inverse card
  one_inverse back i =
      same_nine back (inverse card) i.nine_back (length_inverse card places)
      (λ a h. good.apart (get_or back a 0) (get_or (inverse card) a 0) (i.on_head a h) (inverse_below card places a h)
      (i.has_track a h ∙ sym (has_back a h)))

  pub inverse_good : Good (inverse card)
  inverse_good = permutation_good (inverse card) (inverse_permutation card places)

-- ---- the first wrong number

-- no number of a good card is wrong
pub good_none_wrong : (card : List ℕ) → Good card → first_wrong card ≡ 9
unfolding first_wrong wrong_number
good_none_wrong card good =
    first_none (wrong_number card) card 9 (sym good.nine_numbers)
    (λ k h. ap₂ ◌||◌ (lt-leb 9 (get_or card k 0) (good.within k h)) (lt-leb 2 _ (few (get_or card k 0))))
  where
    few : (a : ℕ) → tracks_with card a < 2
    few a =
        occurs_once (length card) (λ k. get_or card k 0) a
        (λ j k hj hk ej ek. good.apart j k (rw good.nine_numbers at hj) (rw good.nine_numbers at hk) (ej ∙ sym ek))

-- a card of nine numbers, none of which is wrong, is good
module _ (card : List ℕ) (nine : length card ≡ 9) (none : 9 ≤ first_wrong card) where
  right : (k : ℕ) → k < 9 → (leb 9 (get_or card k 0) ≡ false) × (leb 2 (tracks_with card (get_or card k 0)) ≡ false)
  unfolding first_wrong wrong_number
  right k h = both_false _ _ (first_before (wrong_number card) card k (omega arith))

  once_each : (j k : ℕ) → j < k → k < 9 → get_or card j 0 ≡ get_or card k 0 → ⊥
  once_each j k less h e =
      let few : tracks_with card (get_or card k 0) < 2 = leb-false 2 _ (right k h).1 in
      omega (arith, occurs_twice (length card) (λ k. get_or card k 0) (get_or card k 0) j k less (omega (arith, nine)) e refl)

  pub none_wrong_good : Good card
  none_wrong_good = record {
    nine_numbers = nine;
    within = λ k h. leb-false 9 (get_or card k 0) (right k h).0;
    apart = same_place 9 (λ k. get_or card k 0) once_each;
  }

-- and nine numbers that make no good card have a wrong one
pub bad_wrong : (card : List ℕ) → length card ≡ 9 → (Good card → ⊥) → first_wrong card < 9
bad_wrong card nine bad = by (dec_lt (first_wrong card) 9)
  where
    by : Dec (first_wrong card < 9) → first_wrong card < 9
    by (yes b) = b
    by (no b) = absurd (bad (none_wrong_good card nine (omega arith)))

-- ---- the standard card: the checker computes that none of its numbers is wrong

pub standard_good : Good standard_card
unfolding standard_card first_wrong wrong_number first_where occurrences total
standard_good = none_wrong_good standard_card refl (omega arith)
