-- The notice's second term of what is moved by a card: a good card is taken, what is moved back is restored, and a card has one inverse (document
-- 02, request 2.4).
-- Assumes nothing.
use mathlib.Core.List.{List, [], ◌∷◌}
use mathlib.Core.Path.{◌≡◌, refl, sym, ap, subst, ◌∙◌}
use Prim.Native.Nat.{ℕ, ◌<◌, ◌≤◌}
use native.Mathlib.Omega.{arith}
use lib.ListN.{length, get_or, take, drop}
use lib.Seq.{take_at}
use Rattle.answer.specs.Answer.{Answer, delivered, output_after}
use Rattle.track_order.proofs.Card.{inverse_card, one_inverse, inverse_good, good_permutation, standard_good}
use Rattle.track_order.proofs.Moved.{good_words, words_passed, good_map, map_delivered, map_passed, good_inverse, inverse_passed}
use Rattle.track_order.proofs.Order.{length_arranged, inverse_inverse}
use Rattle.track_order.proofs.Restored.{words_restored, map_restored, arranged_map_lt, none_above, none_stray_moved}
use Rattle.track_order.proofs.Rows.{words_delivered}
use Rattle.track_order.specs.declared.Toward.{Toward}
use Rattle.track_order.specs.Card.{Good, InverseCard}
use Rattle.track_order.specs.Moved.{words_answer, map_answer, card_words_answer, card_map_answer, inverse_answer}
use Rattle.track_order.specs.Order.{standard_card, inverse, way, back, moved_words, moved_map}
use Rattle.terms.specs.Call.{standard_words, standard_map, answer_to}
use Rattle.terms.specs.Terms.{MovesWords, MovesMap, Inverts}
use Rattle.terms.proofs.Third.{output_of}

-- the figures of a delivery are one list
one_figures : (x y : List ℕ) → delivered x ≡ delivered y → x ≡ y
one_figures x y e = cc

-- ---- the calls without a card are those by the standard one

pub standard_words_lem : (toward : Toward) (source : List ℕ) (space : ℕ) → words_answer source space ≡ answer_to (standard_words toward source) space
unfolding answer_to
standard_words_lem toward source space = sym (good_words source space standard_card standard_good)

pub standard_map_lem : (toward : Toward) (m space : ℕ) → map_answer (moved_map toward standard_card) m ≡ answer_to (standard_map toward m) space
unfolding answer_to
standard_map_lem toward m space = sym (good_map standard_card (moved_map toward standard_card) m standard_good)

-- ---- nine words

module _ (toward : Toward) (card source : List ℕ) (answer : Answer) (before after : List ℕ)
    (answers : answer ≡ card_words_answer card source (length before))
    (stores : after ≡ output_after answer (moved_words toward card source) before) where
  words_delivers : Good card → length source ≡ 9 → ((k : ℕ) → k < 9 → get_or source k 0 ≤ 1023) → 9 ≤ length before → answer ≡ delivered []
  words_delivers good nine small enough =
      answers ∙ good_words source (length before) card good ∙ words_delivered source (length before) nine enough (none_above source nine small)

  words_back : (figures : List ℕ) → answer ≡ delivered figures → (space : ℕ) → 9 ≤ space
      → (card_words_answer card (take 9 after) space ≡ delivered []) × (moved_words (back toward) card (take 9 after) ≡ source)
  words_back figures e space enough =
      let passed = words_passed source (length before) card figures (sym answers ∙ e) in
      let moved : List ℕ = moved_words toward card source in
      let nine : length moved ≡ 9 = length_arranged (way toward card) source in
      let stored : take 9 after ≡ moved =
      ap (take 9) (output_of answer figures moved before after e stores) ∙ take_at moved (drop (length moved) before) 9 nine in (
        ap (λ (l : List ℕ). card_words_answer card l space) stored
            ∙ good_words moved space card passed.0
            ∙ words_delivered moved space nine enough (none_stray_moved card passed.0 toward source passed.1 passed.3),
        ap (moved_words (back toward) card) stored ∙ words_restored card passed.0 toward source passed.1,
      )

  pub moves_words : MovesWords toward card source answer before after
  moves_words = record {
    is_delivered = words_delivers;
    by_good = λ figures e. (words_passed source (length before) card figures (sym answers ∙ e)).0;
    restored = words_back;
  }

-- ---- a map

module _ (toward : Toward) (card : List ℕ) (m : ℕ) (answer : Answer) (answers : answer ≡ card_map_answer card (moved_map toward card) m) where
  map_back_lem : (figures : List ℕ) → answer ≡ delivered figures → card_map_answer card (moved_map (back toward) card) (get_or figures 0 0) ≡ delivered (m ∷ [])
  map_back_lem figures e =
      let passed = map_passed card (moved_map toward card) m figures (sym answers ∙ e) in
      let moved : ℕ = moved_map toward card m in
      let told : get_or figures 0 0 ≡ moved = ap (λ (l : List ℕ). get_or l 0 0) (sym (one_figures (moved ∷ []) figures passed.2)) in
      ap (card_map_answer card (moved_map (back toward) card)) told
      ∙ good_map card (moved_map (back toward) card) moved passed.0
      ∙ sym (map_delivered (moved_map (back toward) card) moved (omega (arith, arranged_map_lt (way toward card) m)) m
      (sym (map_restored card passed.0 toward m (omega (arith, passed.1)))))

  pub moves_map : MovesMap toward card m answer
  moves_map = record {
    is_delivered = λ good small.
        answers ∙ good_map card (moved_map toward card) m good ∙ sym (map_delivered (moved_map toward card) m small (moved_map toward card m) refl);
    by_good = λ figures e. (map_passed card (moved_map toward card) m figures (sym answers ∙ e)).0;
    restored = map_back_lem;
  }

-- ---- the inverse card

module _ (card : List ℕ) (answer : Answer) (answers : answer ≡ inverse_answer card) where
  told_inverse : (figures : List ℕ) → answer ≡ delivered figures → Good card × (inverse card ≡ figures)
  told_inverse figures e =
      let passed = inverse_passed card figures (sym answers ∙ e) in (passed.0, one_figures (inverse card) figures passed.1)

  pub inverts : Inverts card answer
  inverts = record {
    is_delivered = λ good. (inverse card, answers ∙ good_inverse card good);
    by_good = λ figures e. (told_inverse figures e).0;
    is_inverse = λ figures e. let told = told_inverse figures e in subst (InverseCard card) told.1 (inverse_card card told.0);
    only_inverse = λ figures other e i. let told = told_inverse figures e in one_inverse card told.0 other i ∙ told.1;
    inverted_back = λ figures e.
        let told = told_inverse figures e in
        ap inverse_answer (sym told.1)
        ∙ good_inverse (inverse card) (inverse_good card told.0)
        ∙ ap delivered (inverse_inverse card (good_permutation card told.0));
  }
