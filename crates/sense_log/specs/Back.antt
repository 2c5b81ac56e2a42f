-- A sense log read back with its group count (document 02, request 2.1).
-- Assumes nothing.
use Rattle.std.specs.Prelude.{ℕ, ◌+◌, ◌-◌, ◌*◌, ◌/◌, ◌%◌, Bool, cond, ◌&&◌, List, eqb, leb, ltb, length, get_or}
use Rattle.indexed.specs.List.{tabulate, total}
use Rattle.indexed.specs.Test.{all_below}
use Rattle.register.specs.Bit.{bit}
use Rattle.answer.specs.Answer.{Answer, delivered, refused_for}
use Rattle.answer.specs.declared.Reason.TheVariants.{Space, LogLength, LogContent}
use Rattle.rectangular.specs.Constants.{most_map, most_groups}
use Rattle.sense_log.specs.Log.{bit_map_length, track_marks}
use Rattle.sense_log.specs.Pair.{pair_at}

-- the bit of group g, and how many of the first groups' bits stand
unfoldable pub group_bit : List ℕ → ℕ → ℕ
group_bit log g = bit (g % 8) (get_or log (g / 8) 0)

unfoldable pub standing_bits : List ℕ → ℕ → ℕ
standing_bits log groups = total groups (group_bit log)

module _ (groups : ℕ) (log : List ℕ) where
  -- the length that suits: the bit map, and two bytes for each of the groups' bits that stand
  unfoldable pub suiting_length : ℕ
  suiting_length = bit_map_length groups + 2 * standing_bits log groups

  -- "9 if the group count isn't 1 to 586 or the length doesn't suit it and the bits of its groups"
  unfoldable pub length_suits : Bool
  length_suits = (ltb 0 groups && leb groups most_groups) && eqb (length log) suiting_length

  -- the spare bits, behind those of the groups, are zero
  unfoldable pub spare_clear : Bool
  spare_clear = all_below (8 * bit_map_length groups - groups) (λ k. eqb (group_bit log (groups + k)) 0)

  -- the maps of tracks that stand in the log, in the order of their groups
  unfoldable pub stored_map : ℕ → ℕ
  stored_map k = pair_at log (bit_map_length groups + 2 * k)

  -- none of them is 0 or above 511
  unfoldable pub maps_suit : Bool
  maps_suit = all_below (standing_bits log groups) (λ k. ltb 0 (stored_map k) && leb (stored_map k) most_map)

  -- "10 if a spare bit stands or a track map is 0 or above 511"
  unfoldable pub content_suits : Bool
  content_suits = spare_clear && maps_suit

  -- the map of group g: zero, or, where its bit stands, the next of those in the log
  unfoldable pub map_back : ℕ → ℕ
  map_back g = cond (eqb (group_bit log g) 0) 0 (stored_map (standing_bits log g))

  -- the maps that the log reads back to, one for each group
  unfoldable pub maps_of : List ℕ
  maps_of = tabulate groups map_back

  -- the answer with space for so many maps: "Reading back a log of 2.1 tells the marks of each track" (document 02, "2.7")
  unfoldable pub read_log_answer : ℕ → Answer
  read_log_answer space =
      cond (leb groups space)
      (cond length_suits
      (cond content_suits (delivered (track_marks maps_of)) (refused_for LogContent 0))
      (refused_for LogLength 0))
      (refused_for Space 0)
