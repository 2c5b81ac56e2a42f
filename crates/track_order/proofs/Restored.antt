-- What is moved out and back by a good card is restored, nine words and a pointer map, whichever order they are moved to first; and what is
-- moved back by a card is moved out by its inverse.
-- Assumes nothing.
use mathlib.Core.Path.{◌≡◌, refl, sym, ap, ◌∙◌}
use mathlib.Core.List.{List}
use Prim.Native.Nat.{ℕ, ◌<◌, ◌≤◌}
use native.Mathlib.Nat.{zero-lt-suc}
use native.Mathlib.Decide.{dec_lt}
use native.Mathlib.Omega.{arith}
use borrow.Author.Tests.{le-ltb, ltb-false}
use lib.Dec.{ltb}
use lib.ListN.{length, get_or, get_or-eq_default}
use Rattle.indexed.proofs.First.{first_none, first_before}
use Rattle.register.specs.Bit.{bits_of, of_bits}
use Rattle.register.proofs.Bit.{Digits, length_bits_of, digits_bits_of, of_bits_bits_of, bits_of_of_bits, of_bits_lt}
use Rattle.slices.specs.Above.{first_above}
use Rattle.track_order.specs.declared.Toward.{Toward}
use Rattle.track_order.specs.declared.Toward.TheVariants.{Physical, Algebraic}
use Rattle.track_order.specs.Card.{Good}
use Rattle.track_order.specs.Order.{inverse, Permutation, arranged, arranged_map, way, back, moved_words, moved_map}
use Rattle.track_order.proofs.Card.{good_permutation}
use Rattle.track_order.proofs.Order.{length_arranged, get_or_arranged, inverse_permutation, inverse_inverse, out_and_back}

-- the nine bits of a map, arranged, are nine bits
pub arranged_digits : (places : List ℕ) (m : ℕ) → Digits (arranged places (bits_of 9 m))
arranged_digits places m k = by (dec_lt k 9)
  where
    by : Dec (k < 9) → get_or (arranged places (bits_of 9 m)) k 0 < 2
    by (yes h) = rw (get_or_arranged places (bits_of 9 m) k h) (digits_bits_of 9 m (get_or places k 0))
    by (no h) =
        rw (get_or-eq_default (arranged places (bits_of 9 m)) 0 {n = k} (omega (arith, length_arranged places (bits_of 9 m))))
        (zero-lt-suc 1)

pub arranged_map_lt : (places : List ℕ) (m : ℕ) → arranged_map places m < 512
unfolding arranged_map
arranged_map_lt places m = rw (length_arranged places (bits_of 9 m)) at (of_bits_lt (arranged places (bits_of 9 m)) (arranged_digits places m))

-- nine bits out and back
map_out_and_back : (places : List ℕ) → Permutation places → (m : ℕ) → m < 512 → arranged_map (inverse places) (arranged_map places m) ≡ m
unfolding arranged_map
map_out_and_back places p m h =
    ap (λ (l : List ℕ). of_bits (arranged (inverse places) l))
    (bits_of_of_bits 9 (arranged places (bits_of 9 m)) (length_arranged places (bits_of 9 m)) (arranged_digits places m))
    ∙ ap of_bits (out_and_back places p (bits_of 9 m) (length_bits_of 9 m))
    ∙ of_bits_bits_of 9 m h

-- nine words of ten bits have no stray one
pub none_above : (words : List ℕ) → length words ≡ 9 → ((k : ℕ) → k < 9 → get_or words k 0 ≤ 1023) → 9 ≤ first_above 1023 words
unfolding first_above
none_above words nine small =
    omega (arith, first_none (λ v. ltb 1023 v) words 9 (sym nine) (λ k h. le-ltb 1023 (get_or words k 0) (small k h)))

module _ (card : List ℕ) (good : Good card) where
  pub way_permutation : (toward : Toward) → Permutation (way toward card)
  way_permutation Physical = good_permutation card good
  way_permutation Algebraic = inverse_permutation card (good_permutation card good)

  -- the way back is the inverse of the way out, the card being the inverse of its inverse
  pub way_back : (toward : Toward) → way (back toward) card ≡ inverse (way toward card)
  way_back Physical = refl
  way_back Algebraic = sym (inverse_inverse card (good_permutation card good))

  -- and the way by the inverse card
  pub way_inverse : (toward : Toward) → way toward (inverse card) ≡ way (back toward) card
  way_inverse Physical = refl
  way_inverse Algebraic = inverse_inverse card (good_permutation card good)

  module _ (toward : Toward) where
    pub words_restored : (words : List ℕ) → length words ≡ 9 → moved_words (back toward) card (moved_words toward card words) ≡ words
    words_restored words nine =
        ap (λ (w : List ℕ). arranged w (moved_words toward card words)) (way_back toward)
        ∙ out_and_back (way toward card) (way_permutation toward) words nine

    pub map_restored : (m : ℕ) → m < 512 → moved_map (back toward) card (moved_map toward card m) ≡ m
    map_restored m h =
        ap (λ (w : List ℕ). arranged_map w (moved_map toward card m)) (way_back toward)
        ∙ map_out_and_back (way toward card) (way_permutation toward) m h

    -- words without stray bits have none where they are moved to
    pub none_stray_moved : (source : List ℕ) → length source ≡ 9 → 9 ≤ first_above 1023 source → 9 ≤ first_above 1023 (moved_words toward card source)
    unfolding first_above
    none_stray_moved source nine none =
        none_above (moved_words toward card source) (length_arranged (way toward card) source)
        (λ k h. let place = (way_permutation toward).below k h in
        rw (get_or_arranged (way toward card) source k h)
        (ltb-false 1023 _ (first_before (λ v. ltb 1023 v) source (get_or (way toward card) k 0) (omega arith))))
