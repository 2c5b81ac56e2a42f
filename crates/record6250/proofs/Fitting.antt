-- What reading a 6250 record delivers is what fits (the notice, third term): data whose written record fits the reading are
-- delivered, with the number of words that differ; what is delivered fits; so one record fits at most, and none if the reading is
-- refused.
-- Assumes nothing.
use mathlib.Core.Path.{◌≡◌, sym, ap, ap₂, subst, ◌∙◌}
use mathlib.Core.Bool.{Bool, true, false, not, true≢false}
use mathlib.Core.List.{List, ◌∷◌}
use mathlib.Core.Logic.{inl, inr}
use Prim.Native.Nat.{ℕ, ◌*◌, ◌<◌}
use native.Mathlib.Nat.{zero-lt-suc}
use native.Mathlib.Omega.{arith}
use borrow.Author.Tests.{not-false}
use lib.ListN.{length, get_or}
use Rattle.answer.specs.Answer.{delivered, refused}
use Rattle.indexed.proofs.Blocks.{length_blocks, blocks_same, cut_blocks, join_cuts}
use Rattle.indexed.specs.Differ.{differences}
use Rattle.indexed.proofs.Tabulate.{tabulate_same}
use Rattle.indexed.proofs.Total.{total_same, differences_total}
use Rattle.register.specs.Counts.{bit_counts}
use Rattle.register.proofs.Counts.{count_tabulate}
use Rattle.rectangular.specs.Constants.{feedback, tracks}
use Rattle.rectangular.specs.Correction.{Judgement, corrected, changed_map}
use Rattle.rectangular.specs.Group.{group}
use Rattle.rectangular.proofs.Equations.{Below}
use Rattle.record6250.specs.Fits.{IsData, Passes, FitsGroup, Fits, words_changed, track_differences, maps_changed}
use Rattle.record6250.specs.Group.{is_corrected, right_values, right_bytes, right_words}
use Rattle.record6250.specs.Picture.{group_read}
use Rattle.record6250.specs.Read.{read_group, read_map, judgement, changed_tracks, first_unfit, read_body, read_data, changed_maps, changes, track_changes, padding_suits, unpadded, judged_answer}
use Rattle.record6250.specs.Record.{body, groups_for, group_bytes, group_words, written_record}
use Rattle.record6250.proofs.Bounded.{blocks_bounded}
use Rattle.record6250.proofs.Cases.{ThreeCases, cases}
use Rattle.rectangular.proofs.Changed.{ones_changed, bit_changed}
use Rattle.indexed.proofs.Below.{first_below_before, first_below_none}
use Rattle.record6250.proofs.FittingGroup.{length_right_bytes, bytes_of_group, group_complete, corrected_fits}
use Rattle.record6250.proofs.Padding.{length_body, body_suits, unpadded_body, body_below, length_unpadded, groups_of_unpadded, body_of_unpadded}
use Rattle.record6250.proofs.Reading.{groups_within, words_below, length_group_bytes, group_bytes_bounded, unpadded_bounded}
use Rattle.record6250.proofs.Record.{written_group}
use Rattle.answer.proofs.Apart.{not_both}

-- ---- what fits is delivered

module _ (backward : Bool) (words maps : List ℕ) (passes : Passes backward words maps) where
  module _ (bytes : List ℕ) (fits : Fits backward words maps bytes) where
    abbrev info : ℕ → List ℕ
    info g = group_bytes g (body bytes)

    long : length (body bytes) ≡ 7 * length maps
    long = omega (arith, length_body bytes, fits.as_many)

    info_below : (g : ℕ) → Below 8 (info g)
    info_below = group_bytes_bounded 256 (body bytes) (body_below bytes fits.are_data.are_bytes)

    -- the judgement of each group is the group that was written
    judged_right : (g : ℕ) → g < length maps → judgement backward words maps g ≡ corrected (group 8 feedback (info g))
    unfolding judgement FitsGroup
    judged_right g h =
        group_complete (read_group backward words maps g) (read_map backward words maps g) (words_below backward words maps passes g h) (info g)
        (info_below g)
        (subst (FitsGroup backward words maps g) (written_group bytes (length maps) g (omega (arith, fits.as_many))) (fits.each g h))

    none_unfit : first_unfit backward words maps ≡ length maps
    unfolding first_unfit is_corrected
    none_unfit = first_below_none (length maps) _ (λ g h. ap (λ (j : Judgement). not (is_corrected j)) (judged_right g h))

    body_read : read_body backward words maps ≡ body bytes
    unfolding read_body group_bytes
    body_read =
        blocks_same (length maps) _ _
        (λ g h. ap right_bytes (judged_right g h) ∙ bytes_of_group (info g) (length_group_bytes (body bytes) (length maps) long g h) (info_below g))
        ∙ join_cuts 7 (length maps) (body bytes) long

    pub data_read : read_data backward words maps ≡ bytes
    unfolding read_data
    data_read = ap unpadded body_read ∙ unpadded_body bytes

    -- the words of each group that fits are those of the record
    right_written : (g : ℕ) → g < length maps
        → right_words (judgement backward words maps g) ≡ group_read false (length maps) (written_record bytes) g
    unfolding right_words right_values group_words
    right_written g h =
        ap right_words (judged_right g h) ∙ sym (written_group bytes (length maps) g (omega (arith, fits.as_many)))

    -- so the tracks that differ are marked, and the words that differ counted, group by group
    pub maps_changed_lem : changed_maps backward words maps ≡ maps_changed backward words maps bytes
    unfolding changed_maps changed_tracks maps_changed
    maps_changed_lem = tabulate_same (length maps) _ _ (λ g h. ap (changed_map 9 (read_group backward words maps g)) (right_written g h))

    changes_counted : changes backward words maps ≡ words_changed backward words maps bytes
    unfolding changes changed_tracks words_changed
    changes_counted =
        total_same (length maps) _ _
        (λ g h. ones_changed 9 (read_group backward words maps g) (right_words (judgement backward words maps g))
        ∙ ap (λ (right : List ℕ). differences 9 (λ k. get_or (read_group backward words maps g) k 0) (λ k. get_or right k 0)) (right_written g h))

    -- and the words that differ in each track
    tracks_counted : track_changes backward words maps ≡ track_differences backward words maps bytes
    unfolding track_changes track_differences maps_changed bit_counts
    tracks_counted =
        ap (bit_counts tracks) maps_changed_lem
        ∙ tabulate_same tracks _ _ (λ k h. count_tabulate k (length maps) _
        ∙ total_same (length maps) _ _
        (λ g b. bit_changed tracks (read_group backward words maps g) (group_read false (length maps) (written_record bytes) g) k h)
        ∙ sym (differences_total (length maps) _ _))

    abbrev told : List ℕ
    told = length bytes ∷ words_changed backward words maps bytes ∷ track_differences backward words maps bytes

    pub fits_delivered : (judged_answer backward words maps ≡ delivered told)
        × (read_data backward words maps ≡ bytes)
    fits_delivered = (by (cases backward words maps), data_read)
      where
        by : ThreeCases backward words maps (judged_answer backward words maps)
            → judged_answer backward words maps ≡ delivered told
        by (inl c) = absurd (omega (arith, none_unfit))
        by (inr (inl c)) =
            c.2
            ∙ ap₂ (λ (n : ℕ) (l : List ℕ). delivered (n ∷ l)) (ap length data_read)
            (ap₂ (λ (n : ℕ) (l : List ℕ). n ∷ l) changes_counted tracks_counted)
        by (inr (inr c)) = absurd (true≢false (sym (ap padding_suits body_read ∙ body_suits bytes) ∙ c.1))

  pub only_one : (a b : List ℕ) → Fits backward words maps a → Fits backward words maps b → a ≡ b
  only_one a b fa fb = sym (data_read a fa) ∙ data_read b fb

  pub refused_none : (n p : ℕ) → judged_answer backward words maps ≡ refused n p → (bytes : List ℕ) → Fits backward words maps bytes → ⊥
  refused_none n p e bytes fits = not_both _ n p (sym (fits_delivered bytes fits).0 ∙ e)

  -- ---- what is delivered fits

  -- the seven bytes of a group that is not unfit, whose words fit
  pub group_fits : (g : ℕ) → g < length maps → g < first_unfit backward words maps
      → (length (right_bytes (judgement backward words maps g)) ≡ 7) × Below 8 (right_bytes (judgement backward words maps g))
      × FitsGroup backward words maps g (group_words (right_bytes (judgement backward words maps g)))
  unfolding first_unfit judgement FitsGroup
  group_fits g h before =
      let fit : is_corrected (judgement backward words maps g) ≡ true =
      not-false _ (first_below_before (length maps) (λ g. not (is_corrected (judgement backward words maps g))) g before) in
      let c = corrected_fits (read_group backward words maps g) (read_map backward words maps g) (words_below backward words maps passes g h) fit in
      (length_right_bytes (judgement backward words maps g), c.0, c.1)

  module _ (all_fit : first_unfit backward words maps ≡ length maps) (suits : padding_suits (read_body backward words maps) ≡ true) where
    whole : length (read_body backward words maps) ≡ 7 * length maps
    unfolding read_body
    whole = length_blocks 7 (length maps) _ (λ g h. length_right_bytes (judgement backward words maps g))

    some : 0 < length maps
    some = (groups_within backward words maps passes).0

    written_back : body (read_data backward words maps) ≡ read_body backward words maps
    unfolding read_data
    written_back = body_of_unpadded (read_body backward words maps) (length maps) some whole suits

    as_many_groups : groups_for (length (read_data backward words maps)) ≡ length maps
    unfolding read_data
    as_many_groups = groups_of_unpadded (read_body backward words maps) (length maps) some whole suits

    -- group g of what is written from the data is what group g was corrected to
    group_back : (g : ℕ) → g < length maps
        → group_read false (length maps) (written_record (read_data backward words maps)) g ≡ group_words (right_bytes (judgement backward words maps g))
    unfolding read_body group_bytes
    group_back g h =
        written_group (read_data backward words maps) (length maps) g (omega (arith, as_many_groups))
        ∙ ap group_words
        (ap (group_bytes g) written_back
        ∙ cut_blocks 7 (length maps) _ (λ g h. length_right_bytes (judgement backward words maps g)) g h)

    is_data : IsData (read_data backward words maps)
    unfolding read_data read_body
    is_data = record {
      within =
          omega (
            arith,
            length_unpadded (read_body backward words maps) (length maps) some whole suits,
            (groups_within backward words maps passes).1,
          );
      are_bytes =
          unpadded_bounded 256 (read_body backward words maps)
          (blocks_bounded 256 (length maps) _ (zero-lt-suc 255) (λ g h. (group_fits g h (omega (arith, all_fit))).1));
    }

    data_fit : Fits backward words maps (read_data backward words maps)
    data_fit = record {
      are_data = is_data;
      as_many = as_many_groups;
      each = λ g h. subst (FitsGroup backward words maps g) (sym (group_back g h)) (group_fits g h (omega (arith, all_fit))).2;
    }

  pub delivered_fits : (values : List ℕ) → judged_answer backward words maps ≡ delivered values
      → Fits backward words maps (read_data backward words maps)
  delivered_fits values e = by (cases backward words maps)
    where
      by : ThreeCases backward words maps (judged_answer backward words maps) → Fits backward words maps (read_data backward words maps)
      by (inl c) = absurd (not_both values _ _ (sym e ∙ c.1))
      by (inr (inl c)) = data_fit c.0 c.1
      by (inr (inr c)) = absurd (not_both values _ _ (sym e ∙ c.2))
