-- A card as it is searched: nine numbers below 9, kept as bits, make all nine bits exactly if the card is good; and a number is wrong if it is
-- above 8 or stands at another place.
-- Assumes nothing.
use mathlib.Core.Bool.{Bool, true, false, ◌||◌, cond, or-true}
use mathlib.Core.List.{List}
use mathlib.Core.Path.{◌≡◌, refl, sym, ap, ap₂, ◌∙◌}
use Prim.Native.Nat.{ℕ, ◌+◌, ◌*◌, ◌%◌, ◌^◌, ◌<◌, ◌≤◌}
use native.Mathlib.Decide.{dec_lt, ℕ_discrete}
use native.Mathlib.Omega.{arith}
use borrow.Author.Tests.{eq-eqb, ne_eqb, le-leb, lt-leb}
use lib.Bits.{bit_or, or_zero_l, or_zero_r, or_self, or_lt}
use lib.Dec.{eqb, leb, ltb, ltb→lt}
use lib.ListN.{length, get_or}
use Rattle.std.proofs.Common.{None}
use Rattle.indexed.specs.List.{index_in}
use Rattle.indexed.proofs.Onto.{occurs_twice, occurs_once, every_value, one_to_one}
use Rattle.indexed.proofs.Test.{tested, equal, equal₂}
use Rattle.register.specs.Bit.{bit}
use Rattle.register.proofs.Bit.{bit_lt}
use Rattle.register.proofs.Expand.{bit_of_zero, bits_ext}
use Rattle.register.proofs.Ones.{bit_of_or}
use Rattle.register.proofs.Xor.{digit_ind}
use Rattle.track_order.specs.Card.{Good, tracks_with, wrong_number, first_wrong}
use Rattle.indexed.proofs.Found.{found_none}
use Rattle.track_order.proofs.Card.{good_none_wrong, none_wrong_good, bad_wrong}

-- ---- one bit more

-- a power of two has one bit
one_bit : (k a : ℕ) → k < 9 → a < 9 → bit k (2 ^ a) ≡ cond (eqb k a) 1 0
unfolding bit
one_bit k a = equal₂ 9 9 (λ k a. bit k (2 ^ a)) (λ k a. cond (eqb k a) 1 0) tt k a

-- and 511 has nine
all_bits : (a : ℕ) → a < 9 → bit a 511 ≡ 1
unfolding bit
all_bits = equal 9 (λ a. bit a 511) (λ a. 1) tt

-- as the code shifts it
pub shifted_one : (a : ℕ) → a < 9 → 1 * 2 ^ a % 65536 ≡ 2 ^ a
shifted_one = equal 9 (λ a. 1 * 2 ^ a % 65536) (λ a. 2 ^ a) tt

bit_added : (k a s : ℕ) → k < 9 → a < 9 → k ≡ a → bit k (bit_or s (2 ^ a)) ≡ 1
bit_added k a s hk ha e =
    bit_of_or k s (2 ^ a)
    ∙ ap (bit_or (bit k s)) (one_bit k a hk ha ∙ ap (λ (b : Bool). cond b 1 0) (eq-eqb k a e))
    ∙ digit_ind (λ (x : ℕ). bit_or x 1 ≡ 1) (or_zero_l 1) (or_self 1) (bit k s) (bit_lt k s)

bit_kept : (k a s : ℕ) → k < 9 → a < 9 → (k ≡ a → ⊥) → bit k (bit_or s (2 ^ a)) ≡ bit k s
bit_kept k a s hk ha ne =
    bit_of_or k s (2 ^ a)
    ∙ ap (bit_or (bit k s)) (one_bit k a hk ha ∙ ap (λ (b : Bool). cond b 1 0) (ne_eqb k a ne))
    ∙ or_zero_r (bit k s)

-- ---- the numbers of the first k tracks, as bits

module _ (card : List ℕ) where
  pub record Seen (k seen : ℕ) : Type 0 where
    pub nine_bits : seen < 512
    pub within : (j : ℕ) → j < k → get_or card j 0 < 9
    pub stands : (j : ℕ) → j < k → bit (get_or card j 0) seen ≡ 1
    pub only : (a : ℕ) → a < 9 → bit a seen ≡ 1 → (j : ℕ) × (j < k) × (get_or card j 0 ≡ a)

  pub seen_none : Seen 0 0
  seen_none = record {
    nine_bits = omega arith;
    within = λ j below. absurd (omega arith);
    stands = λ j below. absurd (omega arith);
    only = λ a small e. absurd (let z = bit_of_zero a in omega arith);
  }

  -- one number more
  pub seen_more : (k seen : ℕ) → Seen k seen → get_or card k 0 < 9 → Seen (k + 1) (bit_or seen (2 ^ get_or card k 0))
  seen_more k seen s small = record {
    nine_bits = or_lt 9 seen (2 ^ number) s.nine_bits (ltb→lt _ _ (tested 9 (λ a. ltb (2 ^ a) 512) tt number small));
    within = λ j below. within_more j below (ℕ_discrete j k);
    stands = λ j below. stands_more j below (ℕ_discrete (get_or card j 0) number);
    only = λ a low e. only_more a low e (ℕ_discrete a number);
  }
    where
      number : ℕ
      number = get_or card k 0

      within_more : (j : ℕ) → j < k + 1 → Dec (j ≡ k) → get_or card j 0 < 9
      within_more j below (yes same) = rw same small
      within_more j below (no ne) = s.within j (omega arith)

      stands_more : (j : ℕ) → j < k + 1 → Dec (get_or card j 0 ≡ number) → bit (get_or card j 0) (bit_or seen (2 ^ number)) ≡ 1
      stands_more j below (yes same) = bit_added (get_or card j 0) number seen (rw same small) small same
      stands_more j below (no ne) =
          let before : j < k = (let other : j ≡ k → ⊥ = λ at. ne (ap (λ (i : ℕ). get_or card i 0) at) in omega arith) in
          bit_kept (get_or card j 0) number seen (s.within j before) small ne ∙ s.stands j before

      only_more : (a : ℕ) → a < 9 → bit a (bit_or seen (2 ^ number)) ≡ 1 → Dec (a ≡ number) → (j : ℕ) × (j < k + 1) × (get_or card j 0 ≡ a)
      only_more a low stood (yes same) = (k, omega arith, sym same)
      only_more a low stood (no ne) =
          let at = s.only a low (sym (bit_kept a number seen low small ne) ∙ stood) in (at.0, omega (arith, at.1), at.2)

  -- ---- all nine bits stand exactly if the card is good

  module _ (nine : length card ≡ 9) where
    good_tested : Good card → leb 9 (first_wrong card) ≡ true
    good_tested good = le-leb 9 (first_wrong card) (omega (arith, good_none_wrong card good))

    bad_tested : (Good card → ⊥) → leb 9 (first_wrong card) ≡ false
    bad_tested bad = lt-leb 9 (first_wrong card) (bad_wrong card nine bad)

    -- where no wrong number is found, none is there
    pub none_found_good : None ≡ index_in 9 (first_wrong card) → Good card
    none_found_good e = none_wrong_good card nine (found_none 9 (first_wrong card) e)

    -- a number above 8
    pub above_tested : (k : ℕ) → k < 9 → 9 ≤ get_or card k 0 → false ≡ leb 9 (first_wrong card)
    above_tested k h large = sym (bad_tested (λ good. omega (arith, good.within k h)))

    module _ (seen : ℕ) (s : Seen 9 seen) where
      all_seen_good : seen ≡ 511 → Good card
      all_seen_good e = record {
        nine_numbers = nine;
        within = s.within;
        apart = one_to_one 9 (λ k. get_or card k 0) s.within (λ a h. s.only a h (ap (bit a) e ∙ all_bits a h));
      }

      good_all_seen : Good card → seen ≡ 511
      good_all_seen good =
          bits_ext 9 seen 511 s.nine_bits (omega arith)
          (λ a h. let at = every_value 9 (λ k. get_or card k 0) s.within good.apart a h in
          sym (ap (λ (n : ℕ). bit n seen) at.2) ∙ s.stands at.0 at.1 ∙ sym (all_bits a h))

      pub seen_tested : eqb seen 511 ≡ leb 9 (first_wrong card)
      seen_tested = by (ℕ_discrete seen 511)
        where
          by : Dec (seen ≡ 511) → eqb seen 511 ≡ leb 9 (first_wrong card)
          by (yes e) = eq-eqb seen 511 e ∙ sym (good_tested (all_seen_good e))
          by (no ne) = ne_eqb seen 511 ne ∙ sym (bad_tested (λ good. ne (good_all_seen good)))

  -- ---- a wrong number: one above 8, or one that stands at another place too

  module _ (place : ℕ) (h : place < length card) where
    pub above_wrong : 9 ≤ get_or card place 0 → true ≡ wrong_number card (get_or card place 0)
    unfolding wrong_number
    above_wrong large = sym (ap (λ (b : Bool). b || leb 2 (tracks_with card (get_or card place 0))) (le-leb 9 _ large))

    pub twice_wrong : (k : ℕ) → k < length card → get_or card k 0 ≡ get_or card place 0 → (k ≡ place → ⊥) → true ≡ wrong_number card (get_or card place 0)
    unfolding wrong_number
    twice_wrong k within e other =
        sym (ap (λ (b : Bool). leb 9 (get_or card place 0) || b) (le-leb 2 _ (twice (dec_lt k place))) ∙ or-true (leb 9 (get_or card place 0)))
      where
        twice : Dec (k < place) → 2 ≤ tracks_with card (get_or card place 0)
        twice (yes less) = occurs_twice (length card) (λ k. get_or card k 0) (get_or card place 0) k place less h e refl
        twice (no b) = occurs_twice (length card) (λ k. get_or card k 0) (get_or card place 0) place k (omega arith) within refl e

    pub alone_right : get_or card place 0 < 9 → ((k : ℕ) → k < length card → get_or card k 0 ≡ get_or card place 0 → k ≡ place)
        → false ≡ wrong_number card (get_or card place 0)
    unfolding wrong_number
    alone_right small alone =
        sym (ap₂ ◌||◌ (lt-leb 9 _ small)
        (lt-leb 2 _ (occurs_once (length card) (λ k. get_or card k 0) (get_or card place 0) (λ j k hj hk ej ek. alone j hj ej ∙ sym (alone k hk ek)))))
