-- The changes of each track (document 02, request 2.7): nine numbers, whose total is the number of changed words.
-- Assumes nothing.
use mathlib.Core.Path.{◌≡◌, sym, ap, ◌∙◌}
use mathlib.Core.Bool.{Bool}
use mathlib.Core.List.{List, ◌∷◌}
use mathlib.Core.Logic.{inl, inr}
use Prim.Native.Nat.{ℕ, ◌^◌, ◌<◌}
use native.Mathlib.Omega.{arith}
use lib.Count.{ones}
use lib.ListN.{length, get_or}
use Rattle.indexed.specs.List.{total}
use Rattle.indexed.proofs.Tabulate.{length_tabulate, get_d_tabulate}
use Rattle.indexed.proofs.Total.{total_same}
use Rattle.answer.specs.Answer.{delivered}
use Rattle.answer.proofs.Apart.{not_both}
use Rattle.register.proofs.Counts.{length_counts, counts_total}
use Rattle.rectangular.specs.Constants.{tracks}
use Rattle.rectangular.proofs.Changed.{changed_lt}
use Rattle.record6250.specs.Group.{right_words}
use Rattle.record6250.specs.Read.{read_group, judgement, changed_tracks, changed_maps, changes, track_changes, read_data, judged_answer, read_answer}
use Rattle.record6250.proofs.Answer.{delivered_passed, answer_passed}
use Rattle.record6250.proofs.Cases.{ThreeCases, cases}

module _ (backward : Bool) (words maps : List ℕ) where
  -- ---- the maps of changed tracks: one for each group, of nine bits, with as many ones as words are changed

  pub length_changed : length (changed_maps backward words maps) ≡ length maps
  unfolding changed_maps
  length_changed = length_tabulate (length maps) (changed_tracks backward words maps)

  pub changed_below : (g : ℕ) → g < length maps → get_or (changed_maps backward words maps) g 0 < 2 ^ tracks
  unfolding changed_maps changed_tracks
  changed_below g h =
      rw (get_d_tabulate (length maps) (changed_tracks backward words maps) g 0 h)
      (changed_lt tracks (read_group backward words maps g) (right_words (judgement backward words maps g)))

  pub ones_changed : total (length (changed_maps backward words maps)) (λ g. ones (get_or (changed_maps backward words maps) g 0)) ≡ changes backward words maps
  unfolding changes changed_maps
  ones_changed =
      ap (λ (n : ℕ). total n (λ g. ones (get_or (changed_maps backward words maps) g 0))) length_changed
      ∙ total_same (length maps) _ _ (λ g h. ap ones (get_d_tabulate (length maps) (changed_tracks backward words maps) g 0 h))

  -- ---- the changes of each track

  pub nine_tracks : length (track_changes backward words maps) ≡ tracks
  unfolding track_changes
  nine_tracks = length_counts tracks (changed_maps backward words maps)

  -- what a reader's delivery tells
  pub delivery_is : (space : ℕ) (figures : List ℕ) → read_answer backward words maps space ≡ delivered figures
      → figures ≡ length (read_data backward words maps) ∷ changes backward words maps ∷ track_changes backward words maps
  delivery_is space figures e =
      let p = delivered_passed backward words maps space figures e in
      by (sym (answer_passed backward words maps p.0 space p.1) ∙ e) (cases backward words maps)
    where
      by : judged_answer backward words maps ≡ delivered figures → ThreeCases backward words maps (judged_answer backward words maps)
          → figures ≡ length (read_data backward words maps) ∷ changes backward words maps ∷ track_changes backward words maps
      by is (inl c) = absurd (not_both figures _ _ (sym is ∙ c.1))
      by is (inr (inl c)) = cc
      by is (inr (inr c)) = absurd (not_both figures _ _ (sym is ∙ c.2))

  -- "The sum is their total."
  pub tracks_total : total tracks (λ k. get_or (track_changes backward words maps) k 0) ≡ changes backward words maps
  unfolding track_changes
  tracks_total =
      counts_total tracks (changed_maps backward words maps) (λ g h. changed_below g (omega (arith, length_changed))) ∙ ones_changed
