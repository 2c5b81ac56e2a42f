-- Two readings of as many groups, whose groups are alike and judged alike, have the same answer, data and changed tracks, once lengths, space and
-- stray bits have passed.
-- Assumes nothing.
use mathlib.Core.Path.{◌≡◌, refl, ap, ap₂, ◌∙◌}
use mathlib.Core.Bool.{Bool, true, false, cond, not}
use mathlib.Core.List.{List, ◌∷◌}
use Prim.Native.Nat.{ℕ, ◌<◌}
use borrow.Author.Tests.{ltb-true}
use lib.Count.{ones}
use lib.Dec.{ltb}
use lib.ListN.{length}
use Rattle.indexed.specs.List.{tabulate, blocks, first_below, total}
use Rattle.indexed.proofs.Below.{first_below_same}
use Rattle.indexed.proofs.Blocks.{blocks_same}
use Rattle.indexed.proofs.Tabulate.{tabulate_same}
use Rattle.indexed.proofs.Total.{total_same}
use Rattle.answer.specs.Answer.{Answer, delivered, refused, refused_for}
use Rattle.register.specs.Counts.{bit_counts}
use Rattle.rectangular.specs.Correction.{Judgement, changed_map}
use Rattle.record6250.specs.Group.{is_corrected, reason_of, right_bytes, right_words}
use Rattle.record6250.specs.Read.{padding_suits, unpadded, read_group, judgement, changed_tracks, first_unfit, read_body, read_data, changed_maps, changes, track_changes, judged_answer}

module _ (b c : Bool) (words maps words' maps' : List ℕ) (as_many : length maps' ≡ length maps)
    (groups : (g : ℕ) → g < length maps → read_group c words' maps' g ≡ read_group b words maps g)
    (judgements : (g : ℕ) → g < length maps → judgement c words' maps' g ≡ judgement b words maps g) where
  same_changed : (g : ℕ) → g < length maps → changed_tracks c words' maps' g ≡ changed_tracks b words maps g
  unfolding changed_tracks
  same_changed g h = ap₂ (λ (ws : List ℕ) (j : Judgement). changed_map 9 ws (right_words j)) (groups g h) (judgements g h)

  same_unfit : first_unfit c words' maps' ≡ first_unfit b words maps
  unfolding first_unfit
  same_unfit =
      ap (λ (n : ℕ). first_below n (λ g. not (is_corrected (judgement c words' maps' g)))) as_many
      ∙ first_below_same (length maps) _ _ (λ g h. ap (λ (j : Judgement). not (is_corrected j)) (judgements g h))

  same_body : read_body c words' maps' ≡ read_body b words maps
  unfolding read_body
  same_body =
      ap (λ (n : ℕ). blocks n (λ g. right_bytes (judgement c words' maps' g))) as_many
      ∙ blocks_same (length maps) _ _ (λ g h. ap right_bytes (judgements g h))

  pub same_data : read_data c words' maps' ≡ read_data b words maps
  unfolding read_data
  same_data = ap unpadded same_body

  same_changes : changes c words' maps' ≡ changes b words maps
  unfolding changes
  same_changes =
      ap (λ (n : ℕ). total n (λ g. ones (changed_tracks c words' maps' g))) as_many
      ∙ total_same (length maps) _ _ (λ g h. ap ones (same_changed g h))

  pub same_maps : changed_maps c words' maps' ≡ changed_maps b words maps
  unfolding changed_maps
  same_maps =
      ap (λ (n : ℕ). tabulate n (changed_tracks c words' maps')) as_many
      ∙ tabulate_same (length maps) _ _ same_changed

  same_tracks : track_changes c words' maps' ≡ track_changes b words maps
  unfolding track_changes
  same_tracks = ap (bit_counts _) same_maps

  pub same_answer : judged_answer c words' maps' ≡ judged_answer b words maps
  unfolding judged_answer read_data
  same_answer =
      ap₂ (λ (u n : ℕ). cond (ltb u n) (refused_for (reason_of (judgement c words' maps' u)) u) rest') same_unfit as_many
      ∙ by (ltb (first_unfit b words maps) (length maps)) refl
    where
      of : List ℕ → List ℕ → Answer
      of l told = cond (padding_suits l) (delivered (length (unpadded l) ∷ told)) (refused 6 0)

      rest' : Answer
      rest' = of (read_body c words' maps') (changes c words' maps' ∷ track_changes c words' maps')

      rest : Answer
      rest = of (read_body b words maps) (changes b words maps ∷ track_changes b words maps)

      by : (t : Bool) → ltb (first_unfit b words maps) (length maps) ≡ t
          → cond t (refused_for (reason_of (judgement c words' maps' (first_unfit b words maps))) (first_unfit b words maps)) rest'
          ≡ cond t (refused_for (reason_of (judgement b words maps (first_unfit b words maps))) (first_unfit b words maps)) rest
      by true e =
          ap (λ (j : Judgement). refused_for (reason_of j) (first_unfit b words maps)) (judgements (first_unfit b words maps) (ltb-true _ _ e))
      by false e =
          ap₂ of same_body (ap₂ (λ (n : ℕ) (l : List ℕ). n ∷ l) same_changes same_tracks)
