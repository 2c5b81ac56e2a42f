-- The log of a judged reading: the maps that are stored are those gathered in front.
-- Assumes nothing.
use mathlib.Core.Path.{◌≡◌, sym, ap, ◌∙◌}
use mathlib.Core.Bool.{Bool, true}
use mathlib.Core.List.{List, [], ◌∷◌, ◌++◌}
use Prim.Native.Nat.{ℕ, ◌≤◌}
use native.Mathlib.Nat.{zero-add}
use native.Mathlib.Omega.{arith}
use lib.ListN.{length, take, drop, length-take}
use lib.Seq.{sets, sets-eq}
use Rattle.answer.specs.Answer.{delivered, output_after}
use Rattle.record6250.specs.Read.{answer_if}
use Rattle.scan6250.specs.Told.{reached, maps_gathered}
use Rattle.scan6250.proofs.Whole.{maps_in_front}
use Rattle.sense_log.specs.Log.{log_space, log_of}
use Rattle.sense_log.specs.Written.{logged, reading_log}
use Rattle.sense_log.proofs.Written.{reading_log_within}

-- stored at the front
stored_in_front : (log whole : List ℕ) → length whole ≤ length log → sets log 0 whole ≡ whole ++ drop (length whole) log
stored_in_front log whole h =
    sets-eq whole log 0 (omega arith) ∙ ap (λ (k : ℕ). whole ++ drop k log) (zero-add (length whole))

-- the maps in front of those gathered have the space that is asked for
pub space_held : (gathered log : List ℕ) (groups : ℕ) → groups ≤ 586 → log_space groups ≤ length log
    → (length (take groups gathered) ≤ 586) × (log_space (length (take groups gathered)) ≤ length log)
space_held gathered log groups most room =
    let short = length-take groups gathered in (omega (arith, short, most), omega (arith, short, room))

-- what is stored of a reading that is delivered
module _ (backward : Bool) (words maps before gathered : List ℕ) (figures : List ℕ) (is : delivered figures ≡ answer_if backward words maps true)
    (kept : gathered ≡ maps_gathered backward words maps (reached backward words maps) before) where
  whole_log : log_of (take (length maps) gathered) ≡ reading_log backward words maps
  unfolding reading_log
  whole_log =
      ap (λ (l : List ℕ). log_of (take (length maps) l)) kept
      ∙ ap log_of (maps_in_front backward words maps figures (sym is) before)

  -- its length is told
  pub length_logged : (size : ℕ) → size ≡ length (log_of (take (length maps) gathered))
      → delivered (size ∷ []) ≡ logged (length (reading_log backward words maps)) (answer_if backward words maps true)
  length_logged size told =
      ap (λ (n : ℕ). logged n (delivered figures)) (told ∙ ap length whole_log) ∙ ap (logged (length (reading_log backward words maps))) is

  -- and it stands at the front of the output
  pub log_in_front : (size : ℕ) (log after : List ℕ) → log_space (length maps) ≤ length log → after ≡ sets log 0 (log_of (take (length maps) gathered))
      → after ≡ output_after (delivered (size ∷ [])) (reading_log backward words maps) log
  unfolding output_after
  log_in_front size log after room stores =
      stores ∙ ap (sets log 0) whole_log ∙ stored_in_front log (reading_log backward words maps) (omega (arith, room, reading_log_within backward words maps))
