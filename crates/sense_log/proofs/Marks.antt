-- The marks of a good log: nine a group at most, and as many as those of all tracks together.
-- Assumes nothing.
use Prim.Native.Nat.{ℕ, ◌*◌, ◌^◌, ◌<◌, ◌≤◌}
use mathlib.Core.Path.{◌≡◌, refl}
use mathlib.Core.Bool.{Bool, true, false, cond}
use mathlib.Core.List.{List}
use native.Mathlib.Omega.{arith}
use borrow.Author.Tests.{eqb-false}
use lib.Count.{ones, ones-le}
use lib.Dec.{eqb}
use lib.ListN.{get_or}
use Rattle.indexed.proofs.Tabulate.{get_d_tabulate}
use Rattle.indexed.specs.List.{total}
use Rattle.indexed.proofs.Total.{total_most}
use Rattle.answer.specs.Answer.{delivered}
use Rattle.register.proofs.Counts.{counts_total}
use Rattle.rectangular.specs.Constants.{tracks, most_groups}
use Rattle.sense_log.specs.Back.{group_bit, standing_bits, content_suits, stored_map, map_back, maps_of, read_log_answer}
use Rattle.sense_log.specs.Log.{marks, track_marks}
use Rattle.sense_log.proofs.Answer.{back_delivered}
use Rattle.sense_log.proofs.Back.{length_maps_of}
use Rattle.sense_log.proofs.Bits.{standing_within}
use Rattle.sense_log.proofs.Good.{length_told_lem, maps_told, content_told}

module _ (groups : ℕ) (log : List ℕ) where
  -- each of its maps has nine bits
  back_below : content_suits groups log ≡ true → (g : ℕ) → g < groups → map_back groups log g < 2 ^ 9
  unfolding map_back
  back_below good g h = by (eqb (group_bit log g) 0) refl
    where
      by : (b : Bool) → eqb (group_bit log g) 0 ≡ b → cond b 0 (stored_map groups log (standing_bits log g)) < 2 ^ 9
      by true e = omega arith
      by false e =
          let stands : 0 < group_bit log g = omega (arith, eqb-false (group_bit log g) 0 e) in
          let below : standing_bits log g < standing_bits log groups = omega (arith, standing_within log groups g h) in
          omega (arith, (maps_told groups log (content_told groups log good).1 (standing_bits log g) below).1)

  marks_below : content_suits groups log ≡ true → marks (maps_of groups log) ≤ 9 * groups
  unfolding marks maps_of
  marks_below good =
      rw (length_maps_of groups log)
      (total_most 9 groups (λ g. ones (get_or (maps_of groups log) g 0)) (λ g h.
      rw (get_d_tabulate groups (map_back groups log) g 0 h) (ones-le 9 (map_back groups log g) (back_below good g h))))

  -- those of all tracks together
  pub marks_total : content_suits groups log ≡ true → total tracks (λ k. get_or (track_marks (maps_of groups log)) k 0) ≡ marks (maps_of groups log)
  unfolding track_marks marks maps_of
  marks_total good =
      counts_total tracks (maps_of groups log) (λ g h.
      let within : g < groups = omega (arith, length_maps_of groups log) in
      rw (get_d_tabulate groups (map_back groups log) g 0 within) (back_below good g within))

  -- so a log that is delivered has as many as a record has words at most
  pub most_marks_lem : (space : ℕ) (figures : List ℕ) → read_log_answer groups log space ≡ delivered figures → marks (maps_of groups log) ≤ 9 * most_groups
  most_marks_lem space figures is =
      let good = back_delivered groups log space figures is in
      omega (arith, marks_below good.2, (length_told_lem groups log good.1).1)
