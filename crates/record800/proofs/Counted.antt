-- The changes of each track (document 02, request 2.7): nine numbers, of which only the corrected track's can be above zero, so that their total
-- is the number of changed characters.
-- Assumes nothing.
use mathlib.Core.Path.{◌≡◌, refl, sym, ap, ◌∙◌}
use mathlib.Core.Bool.{Bool, true, false, cond}
use mathlib.Core.List.{List}
use mathlib.Core.Logic.{◌⊎◌, inl, inr}
use Prim.Native.Nat.{ℕ, ◌<◌}
use borrow.Author.Tests.{eq-eqb, ne_eqb}
use lib.Dec.{eqb}
use lib.ListN.{length, get_or}
use Rattle.indexed.specs.List.{total}
use Rattle.indexed.proofs.Tabulate.{length_tabulate, get_d_tabulate}
use Rattle.indexed.proofs.Total.{total_one, total_none}
use Rattle.answer.specs.Answer.{delivered}
use Rattle.answer.proofs.Apart.{not_both}
use Rattle.cyclic.specs.Constants.{tracks}
use Rattle.record800.specs.Read.{track_changes, figures_of, wrong_count, judged_answer}
use Rattle.record800.proofs.Judged.{Judged, clean, one, several, none, judged}

module _ (track changes : ℕ) where
  pub nine_tracks : length (track_changes track changes) ≡ tracks
  unfolding track_changes
  nine_tracks = length_tabulate tracks _

  pub elsewhere_none : (t : ℕ) → t < tracks → (t ≡ track → ⊥) → get_or (track_changes track changes) t 0 ≡ 0
  unfolding track_changes
  elsewhere_none t h apart = get_d_tabulate tracks _ t 0 h ∙ ap (λ (b : Bool). cond b changes 0) (ne_eqb t track apart)

  -- "The sum is their total", if there is a corrected track or nothing is changed
  pub tracks_total : (track < tracks) ⊎ (changes ≡ 0) → total tracks (λ t. get_or (track_changes track changes) t 0) ≡ changes
  unfolding track_changes
  tracks_total (inl h) =
      total_one tracks _ track h elsewhere_none
      ∙ get_d_tabulate tracks _ track 0 h
      ∙ ap (λ (b : Bool). cond b changes 0) (eq-eqb track track refl)
  tracks_total (inr nothing) =
      total_none tracks _ (λ t h. get_d_tabulate tracks _ t 0 h ∙ of_none (eqb t track)) ∙ sym nothing
    where
      of_none : (b : Bool) → cond b changes 0 ≡ 0
      of_none true = nothing
      of_none false = refl

-- what a delivery tells: the corrected track is one of the nine, or nothing is changed
pub delivery_is : (n : ℕ) (l figures : List ℕ) → judged_answer n l ≡ delivered figures
    → (track : ℕ) × (changes : ℕ) × (figures ≡ figures_of n track changes) × ((track < tracks) ⊎ (changes ≡ 0))
delivery_is n l figures e = by (judged n l)
  where
    by : Judged n l (judged_answer n l)
        → (track : ℕ) × (changes : ℕ) × (figures ≡ figures_of n track changes) × ((track < tracks) ⊎ (changes ≡ 0))
    by (clean w h a) = (tracks, 0, cc, inr refl)
    by (one some j b h alone a) = (j, wrong_count n l, cc, inl b)
    by (several some i j h b p q a) = absurd (not_both figures 8 0 (cc))
    by (none nothing a) = absurd (not_both figures 7 0 (cc))
