-- How a group of nine words is judged, with the drive's pointer map (document 01, "The 6250 group"; the notice, third term).
-- Assumes nothing.
use Rattle.std.specs.Prelude.{ℕ, Bool, true, false, List, [], eqb, get_or}
use Rattle.std.specs.Int.Bits.{bit_or}
use Rattle.indexed.specs.List.{tabulate}
use Rattle.register.specs.Bit.{of_bits}
use Rattle.answer.specs.declared.Reason.{Reason}
use Rattle.answer.specs.declared.Reason.TheVariants.{ManyPointed, NoGroup}
use Rattle.group_code.specs.Word.{illegality}
use Rattle.rectangular.specs.Constants.{feedback, exponent, tracks}
use Rattle.rectangular.specs.Correction.{pointed_tracks, Judgement, corrected, many_pointed, no_group, judged}
use Rattle.rectangular.specs.Group.{information_of}
use Rattle.rectangular.specs.Relied.{relied_on}
use Rattle.record6250.specs.Track.{value_on, words_of}

-- the tracks whose words are illegal, as a map
unfoldable pub illegal_map : List ℕ → ℕ
illegal_map words = of_bits (tabulate tracks (λ k. illegality (get_or words k 0)))

-- "A track is pointed by the drive or by an illegal code on it."
unfoldable pub pointed : List ℕ → ℕ → ℕ
pointed words pointers = bit_or pointers (illegal_map words)

-- the tracks that fitting relies on (document 02, "2.3")
unfoldable pub relied : List ℕ → ℕ → ℕ
relied words pointers = relied_on (eqb (illegal_map words) 0) (pointed words pointers)

-- the judgement: the values of the group that fits, or why none does
unfoldable pub judged_group : List ℕ → ℕ → Judgement
judged_group words pointers =
    judged 8 feedback exponent (λ k. value_on k (get_or words k 0)) (pointed_tracks tracks (relied words pointers))

unfoldable pub is_corrected : Judgement → Bool
is_corrected (corrected values) = true
is_corrected many_pointed = false
is_corrected no_group = false

-- the values of the group that fits
unfoldable pub right_values : Judgement → List ℕ
right_values (corrected values) = values
right_values many_pointed = []
right_values no_group = []

-- why no group fits
unfoldable pub reason_of : Judgement → Reason
reason_of (corrected values) = NoGroup
reason_of many_pointed = ManyPointed
reason_of no_group = NoGroup

-- its seven bytes, and its words
unfoldable pub right_bytes : Judgement → List ℕ
right_bytes j = information_of 8 (λ k. get_or (right_values j) k 0)

unfoldable pub right_words : Judgement → List ℕ
right_words j = words_of (right_values j)
