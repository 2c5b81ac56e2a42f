-- What is delivered of a judged record: as many bytes as the answer tells stand in front of what was gathered.
-- Assumes nothing.
use mathlib.Core.Path.{◌≡◌, sym, ap}
use mathlib.Core.Bool.{Bool, true}
use mathlib.Core.List.{List, ◌∷◌, ◌++◌}
use Prim.Native.Nat.{ℕ, ◌≤◌}
use lib.ListN.{length, get_or, take, drop}
use Rattle.answer.specs.Answer.{delivered, output_after}
use Rattle.record6250.specs.Read.{space_for, read_data, answer_if}
use Rattle.scan6250.specs.Told.{reached, bytes_gathered}
use Rattle.scan6250.proofs.Whole.{figures_are, data_short, data_within, data_in_front}

module _ (backward : Bool) (words maps body : List ℕ) (size : ℕ) (others : List ℕ) (is : delivered (size ∷ others) ≡ answer_if backward words maps true) where
  abbrev bytes : List ℕ
  bytes = bytes_gathered backward words maps (reached backward words maps) body

  count : size ≡ length (read_data backward words maps)
  count = ap (λ (l : List ℕ). get_or l 0 0) (figures_are backward words maps (size ∷ others) (sym is))

  -- what is delivered was gathered, and has space
  pub told_within : size ≤ length bytes
  told_within = rw count (data_within backward words maps (size ∷ others) (sym is) body)

  pub told_short : size ≤ space_for (length maps)
  told_short = rw count (data_short backward words maps (size ∷ others) (sym is))

  -- the front of the output is the data
  pub stored : (before : List ℕ) → take size bytes ++ drop size before ≡ output_after (delivered (size ∷ others)) (read_data backward words maps) before
  unfolding output_after
  stored before =
      rw count
      (ap (λ (l : List ℕ). l ++ drop (length (read_data backward words maps)) before) (data_in_front backward words maps (size ∷ others) (sym is) body))
