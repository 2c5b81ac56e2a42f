-- The answer to a 6250 reading that passed, by its three cases.
-- Assumes nothing.
use mathlib.Core.Path.{◌≡◌, refl}
use mathlib.Core.Bool.{Bool, true, false, cond, not}
use mathlib.Core.List.{List, ◌∷◌}
use mathlib.Core.Logic.{◌⊎◌, inl, inr}
use Prim.Native.Nat.{ℕ, ◌<◌}
use native.Mathlib.Omega.{arith}
use borrow.Author.Tests.{ltb-true, ltb-false}
use lib.Dec.{ltb}
use lib.ListN.{length}
use Rattle.answer.specs.Answer.{Answer, delivered, refused, refused_for}
use Rattle.record6250.specs.Group.{is_corrected, reason_of}
use Rattle.record6250.specs.Read.{judgement, first_unfit, read_body, read_data, changes, track_changes, padding_suits, judged_answer}
use Rattle.indexed.proofs.Below.{first_below_le}

module _ (backward : Bool) (words maps : List ℕ) where
  -- the first unfit group, and the two answers that depend on the reading
  abbrev pub unfit : ℕ
  unfit = first_unfit backward words maps

  abbrev pub refusal : Answer
  refusal = refused_for (reason_of (judgement backward words maps unfit)) unfit

  abbrev pub delivery : Answer
  delivery = delivered (length (read_data backward words maps) ∷ changes backward words maps ∷ track_changes backward words maps)

  abbrev pub suits : Bool
  suits = padding_suits (read_body backward words maps)

  -- some group is unfit; or all are fit, and the padding suits or does not
  abbrev pub ThreeCases : Answer → Type 0
  ThreeCases answer =
      ((unfit < length maps) × (answer ≡ refusal))
      ⊎ ((unfit ≡ length maps) × (suits ≡ true) × (answer ≡ delivery))
      ⊎ ((unfit ≡ length maps) × (suits ≡ false) × (answer ≡ refused 6 0))

  all_fit : ltb unfit (length maps) ≡ false → unfit ≡ length maps
  unfolding first_unfit
  all_fit e =
      omega (arith, ltb-false unfit (length maps) e, first_below_le (length maps) (λ g. not (is_corrected (judgement backward words maps g))))

  pub cases : ThreeCases (judged_answer backward words maps)
  unfolding judged_answer
  cases = by (ltb unfit (length maps)) refl suits refl
    where
      by : (b : Bool) → ltb unfit (length maps) ≡ b → (d : Bool) → suits ≡ d → ThreeCases (cond b refusal (cond d delivery (refused 6 0)))
      by true e d q = inl (ltb-true _ _ e, refl)
      by false e true q = inr (inl (all_fit e, q, refl))
      by false e false q = inr (inr (all_fit e, q, refl))
