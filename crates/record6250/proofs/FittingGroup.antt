-- Nine words that were read with their pointers: they are corrected exactly to the group whose words the pointers allow. The code
-- corrects values; a track that is not relied on has a legal word, so its word is right exactly if its value is.
-- Assumes nothing.
use mathlib.Core.Path.{◌≡◌, refl, sym, ap, subst, ◌∙◌}
use mathlib.Core.Bool.{Bool, true, false, false≢true}
use mathlib.Core.List.{List}
use mathlib.Core.Logic.{inl, inr}
use Prim.Native.Nat.{ℕ, ◌-◌, ◌<◌}
use native.Mathlib.Omega.{arith}
use borrow.Author.Tests.{eqb-true, eqb-false, eq-eqb, ne_eqb}
use lib.Dec.{eqb}
use lib.ListN.{length, get_or}
use Rattle.indexed.specs.Differ.{differences}
use Rattle.indexed.proofs.Tabulate.{length_tabulate, tabulate_same}
use Rattle.register.specs.Bit.{bit}
use Rattle.indexed.proofs.Total.{differences_same}
use Rattle.rectangular.specs.Constants.{feedback}
use Rattle.rectangular.specs.Correction.{pointed_tracks, Allowed, Judgement, corrected, many_pointed, no_group}
use Rattle.rectangular.specs.Group.{track, group, information_of, IsGroup}
use Rattle.rectangular.proofs.Correction.{nine_sound, nine_complete}
use Rattle.rectangular.proofs.Equations.{Below, get_or_group, written_is_group, information_recovered, information_below, group_of_list}
use Rattle.rectangular.proofs.Pointed.{outside}
use Rattle.rectangular.proofs.Suits.{nine_tracks}
use Rattle.rectangular.proofs.Symmetry.{column_ext}
use Rattle.record6250.specs.Group.{relied, judged_group, is_corrected, right_values, right_bytes}
use Rattle.record6250.specs.Record.{group_words}
use Rattle.record6250.specs.Track.{word_on, value_on, words_of}
use Rattle.record6250.proofs.Relied.{unrelied_legal}
use Rattle.record6250.proofs.Track.{value_on_lt, value_of_word_on, word_of_value_on, get_or_words_of}

-- ---- the seven bytes of a judgement

pub length_right_bytes : (j : Judgement) → length (right_bytes j) ≡ 7
unfolding right_bytes information_of
length_right_bytes j = length_tabulate 7 _

pub bytes_of_group : (info : List ℕ) → length info ≡ 7 → Below 8 info → right_bytes (corrected (group 8 feedback info)) ≡ info
unfolding right_bytes right_values information_of
bytes_of_group info long small =
    tabulate_same 7 _ _
    (λ k h. column_ext 8 (λ k. get_or (group 8 feedback info) k 0) (track 8 feedback info)
    (λ i b. get_or_group 8 feedback info i (omega arith)) (7 - k))
    ∙ information_recovered 8 feedback nine_tracks.positive nine_tracks.fits info small long

-- ---- words against values

-- the words of a group are those of its tracks, which are bytes
pub group_word : (info : List ℕ) (k : ℕ) → k < 9 → get_or (group_words info) k 0 ≡ word_on k (track 8 feedback info k)
unfolding group_words
group_word info k h = get_or_words_of (group 8 feedback info) k h ∙ ap (word_on k) (get_or_group 8 feedback info k (omega arith))

pub tracks_group : (info : List ℕ) → Below 8 info → IsGroup 8 feedback (track 8 feedback info)
tracks_group = written_is_group 8 feedback nine_tracks.positive nine_tracks.fits

-- two equations that are true together have the same test
pub same_test : (a b c d : ℕ) → (a ≡ b → c ≡ d) → (c ≡ d → a ≡ b) → eqb a b ≡ eqb c d
same_test a b c d to from = by (eqb a b) refl
  where
    by : (t : Bool) → eqb a b ≡ t → t ≡ eqb c d
    by true e = sym (eq-eqb c d (to (eqb-true a b e)))
    by false e = sym (ne_eqb c d (λ q. eqb-false a b e (from q)))

module _ (ws : List ℕ) (m : ℕ) where
  none_pointed : length (pointed_tracks 9 (relied ws m)) ≡ 0 → (k : ℕ) → k < 9 → bit k (relied ws m) ≡ 0
  none_pointed e k h =
      outside 9 (relied ws m) (pointed_tracks 9 (relied ws m)) refl k h (λ t b. absurd (omega arith))

  module _ (below : (k : ℕ) → k < 9 → get_or ws k 0 < 1024) where
    -- the words of some values: those are allowed exactly if these are
    module _ (u right : ℕ → ℕ) (bytes : (k : ℕ) → k < 9 → u k < 256) (written : (k : ℕ) → k < 9 → right k ≡ word_on k (u k)) where
      same_value : (k : ℕ) → k < 9 → get_or ws k 0 ≡ right k → value_on k (get_or ws k 0) ≡ u k
      same_value k h e = ap (value_on k) (e ∙ written k h) ∙ value_of_word_on k (u k) (bytes k h)

      same_word : (k : ℕ) → k < 9 → bit k (relied ws m) ≡ 0 → value_on k (get_or ws k 0) ≡ u k → get_or ws k 0 ≡ right k
      same_word k h z e =
          sym (word_of_value_on k (get_or ws k 0) (below k h) (unrelied_legal ws m k h z)) ∙ ap (word_on k) e ∙ sym (written k h)

      same_differences : length (pointed_tracks 9 (relied ws m)) ≡ 0
          → differences 9 (λ k. get_or ws k 0) right ≡ differences 9 (λ k. value_on k (get_or ws k 0)) u
      same_differences none =
          differences_same 9 _ right _ u
          (λ k h. same_test (get_or ws k 0) (right k) (value_on k (get_or ws k 0)) (u k) (same_value k h) (same_word k h (none_pointed none k h)))

      allowed_values : Allowed 9 (relied ws m) (λ k. get_or ws k 0) right → Allowed 9 (relied ws m) (λ k. value_on k (get_or ws k 0)) u
      unfolding Allowed
      allowed_values (inl a) = inl (a.0, omega (arith, same_differences a.0))
      allowed_values (inr a) = inr (a.0, a.1, λ k h z. same_value k h (a.2 k h z))

      allowed_words : Allowed 9 (relied ws m) (λ k. value_on k (get_or ws k 0)) u → Allowed 9 (relied ws m) (λ k. get_or ws k 0) right
      unfolding Allowed
      allowed_words (inl a) = inl (a.0, omega (arith, same_differences a.0))
      allowed_words (inr a) = inr (a.0, a.1, λ k h z. same_word k h z (a.2 k h z))

    pub group_sound : (u : List ℕ) → judged_group ws m ≡ corrected u
        → (length u ≡ 9) × IsGroup 8 feedback (λ k. get_or u k 0)
        × Allowed 9 (relied ws m) (λ k. get_or ws k 0) (λ k. get_or (words_of u) k 0)
    unfolding judged_group
    group_sound u e =
        let s = nine_sound (λ k. value_on k (get_or ws k 0)) (λ k h. value_on_lt k (get_or ws k 0)) (relied ws m) u e in (
          s.0,
          s.1,
          allowed_words (λ k. get_or u k 0) _ (λ k h. s.1.bounds k (omega arith))
              (get_or_words_of u) s.2,
        )

    pub group_complete : (info : List ℕ) → Below 8 info
        → Allowed 9 (relied ws m) (λ k. get_or ws k 0) (λ k. get_or (group_words info) k 0)
        → judged_group ws m ≡ corrected (group 8 feedback info)
    unfolding judged_group group
    group_complete info small a =
        nine_complete (λ k. value_on k (get_or ws k 0)) (λ k h. value_on_lt k (get_or ws k 0)) (relied ws m) (track 8 feedback info)
        (tracks_group info small)
        (allowed_values (track 8 feedback info) _ (λ k h. (tracks_group info small).bounds k (omega arith)) (group_word info) a)

    -- a group that is corrected has seven bytes whose words are allowed
    pub corrected_fits : is_corrected (judged_group ws m) ≡ true
        → Below 8 (right_bytes (judged_group ws m))
        × Allowed 9 (relied ws m) (λ k. get_or ws k 0) (λ k. get_or (group_words (right_bytes (judged_group ws m))) k 0)
    unfolding is_corrected right_bytes right_values group_words
    corrected_fits = by (judged_group ws m) refl
      where
        by : (j : Judgement) → judged_group ws m ≡ j → is_corrected j ≡ true
            → Below 8 (right_bytes j) × Allowed 9 (relied ws m) (λ k. get_or ws k 0) (λ k. get_or (group_words (right_bytes j)) k 0)
        by (corrected u) e t =
            let s = group_sound u e in (
              information_below 8 feedback nine_tracks.positive nine_tracks.fits (λ k. get_or u k 0) s.1,
              subst (λ (v : List ℕ). Allowed 9 (relied ws m) (λ k. get_or ws k 0) (λ k. get_or (words_of v) k 0))
                  (sym (group_of_list 8 feedback nine_tracks.positive nine_tracks.fits u s.0 s.1)) s.2,
            )
        by many_pointed e t = absurd (false≢true t)
        by no_group e t = absurd (false≢true t)
