-- The map of the tracks that differ: it has a bit for each track, which is set if the track differs, and as many are set as tracks differ.
-- Assumes nothing.
use mathlib.Core.Path.{◌≡◌, sym, ◌∙◌}
use mathlib.Core.Bool.{cond}
use mathlib.Core.List.{List}
use Prim.Native.Nat.{ℕ, ◌^◌, ◌<◌}
use lib.Count.{ones}
use lib.Dec.{eqb}
use lib.ListN.{get_or}
use Rattle.indexed.specs.Differ.{differences}
use Rattle.indexed.proofs.Total.{differences_total}
use Rattle.register.specs.Bit.{bit}
use Rattle.register.proofs.Ones.{ones_of_bits, bit_of_tabulate, tabulated_lt}
use Rattle.rectangular.specs.Correction.{changed_map}
use Rattle.indexed.proofs.Test.{flag_lt}

module _ (n : ℕ) (read right : List ℕ) where
  pub ones_changed : ones (changed_map n read right) ≡ differences n (λ k. get_or read k 0) (λ k. get_or right k 0)
  unfolding changed_map
  ones_changed =
      ones_of_bits n _ (λ k h. flag_lt (eqb (get_or read k 0) (get_or right k 0)))
      ∙ sym (differences_total n (λ k. get_or read k 0) (λ k. get_or right k 0))

  pub bit_changed : (k : ℕ) → k < n → bit k (changed_map n read right) ≡ cond (eqb (get_or read k 0) (get_or right k 0)) 0 1
  unfolding changed_map
  bit_changed k h = bit_of_tabulate n _ (λ k h. flag_lt (eqb (get_or read k 0) (get_or right k 0))) k h

  pub changed_lt : changed_map n read right < 2 ^ n
  unfolding changed_map
  changed_lt = tabulated_lt n _ (λ k h. flag_lt (eqb (get_or read k 0) (get_or right k 0)))
