-- An 800 reading that passes and is refused: nothing fits, or two records do.
-- Assumes nothing.
use mathlib.Core.Path.{◌≡◌, sym, ◌∙◌}
use mathlib.Core.Bool.{Bool}
use mathlib.Core.List.{List}
use mathlib.Core.Logic.{◌⊎◌, inl, inr}
use Prim.Native.Nat.{ℕ, ◌-◌}
use native.Mathlib.Omega.{arith}
use lib.ListN.{length}
use Rattle.answer.specs.Answer.{refused}
use Rattle.cyclic.specs.Constants.{checks}
use Rattle.record800.specs.Fits.{Passes, Fits}
use Rattle.record800.specs.Read.{picture, judged_answer}
use Rattle.record800.proofs.Fitting.{fits_candidate, candidate_fits, bytes_apart}
use Rattle.record800.proofs.Judged.{Judged, clean, one, several, none, judged, bytes_of}
use Rattle.answer.proofs.Apart.{not_both, same_number, same_place}

module _ (backward : Bool) (characters : List ℕ) (passes : Passes backward characters) where
  abbrev n : ℕ
  n = length characters - checks

  abbrev l : List ℕ
  l = picture backward characters

  abbrev FitsHere : List ℕ → Type 0
  FitsHere bytes = Fits backward characters bytes

  pub none_refused : (p : ℕ) → judged_answer n l ≡ refused 7 p → (p ≡ 0) × ((bytes : List ℕ) → FitsHere bytes → ⊥)
  none_refused p e = by (judged n l)
    where
      by : Judged n l (judged_answer n l) → (p ≡ 0) × ((bytes : List ℕ) → FitsHere bytes → ⊥)
      by (clean w h a) = absurd (not_both _ 7 p (sym a ∙ e))
      by (one some j b h alone a) = absurd (not_both _ 7 p (sym a ∙ e))
      by (several some i j h b r q a) = absurd (omega (arith, same_number 7 8 p 0 (sym e ∙ a)))
      by (none nothing a) = (same_place 7 7 p 0 (sym e ∙ a), λ bytes f. nothing f.track f.is_track (fits_candidate backward characters passes bytes f).1)

  pub several_refused : (p : ℕ) → judged_answer n l ≡ refused 8 p
      → (p ≡ 0) × (first : List ℕ) × (second : List ℕ) × FitsHere first × FitsHere second × (first ≡ second → ⊥)
  several_refused p e = by (judged n l)
    where
      by : Judged n l (judged_answer n l)
          → (p ≡ 0) × (first : List ℕ) × (second : List ℕ) × FitsHere first × FitsHere second × (first ≡ second → ⊥)
      by (clean w h a) = absurd (not_both _ 8 p (sym a ∙ e))
      by (one some j b h alone a) = absurd (not_both _ 8 p (sym a ∙ e))
      by (several some i j h b r q a) = (
        same_place 8 8 p 0 (sym e ∙ a),
        bytes_of n l i,
        bytes_of n l j,
        candidate_fits backward characters passes i (omega arith) r,
        candidate_fits backward characters passes j b q,
        bytes_apart backward characters passes some i j h b r q,
      )
      by (none nothing a) = absurd (omega (arith, same_number 8 7 p 0 (sym e ∙ a)))

  -- and there is no other refusal
  pub refused_kinds : (m p : ℕ) → judged_answer n l ≡ refused m p → (m ≡ 7) ⊎ (m ≡ 8)
  refused_kinds m p e = by (judged n l)
    where
      by : Judged n l (judged_answer n l) → (m ≡ 7) ⊎ (m ≡ 8)
      by (clean w h a) = absurd (not_both _ m p (sym a ∙ e))
      by (one some j b h alone a) = absurd (not_both _ m p (sym a ∙ e))
      by (several some i j h b r q a) = inr (same_number m 8 p 0 (sym e ∙ a))
      by (none nothing a) = inl (same_number m 7 p 0 (sym e ∙ a))
