-- How a group that was read is judged, over the width w, the feedback f and the exponent n (document 000, "Error correction
-- capability", theorems 1 and 2; the notice, third term).
-- Assumes nothing.
use Rattle.std.specs.Prelude.{cond, List, ◌⊎◌, ◌≡◌, ℕ, suc, ◌<◌, ◌≤◌, eqb, length, get_or}
use Rattle.indexed.specs.Differ.{differences}
use Rattle.indexed.specs.List.{tabulate, below, keep}
use Rattle.register.specs.Bit.{bit, of_bits}
use Rattle.register.specs.Xor.{◌⊕◌}
use Rattle.rectangular.specs.Syndrome.{parity_syndrome, check_syndrome, Errors, errors_in, too_many, unaccounted, errors_of}

-- ---- what is allowed

-- the tracks that a map points at, lowest first, of n tracks
unfoldable pub pointed_tracks : ℕ → ℕ → List ℕ
pointed_tracks n pointers = keep (λ k. eqb (bit k pointers) 1) (below n)

-- Where a group that was read may differ from one of the code (the notice, third term): "only the pointed tracks differ, two at
-- most, or, with none pointed, one track at most; a group with three or more pointed fits nothing". The tracks are words or values.
unfoldable pub Allowed : ℕ → ℕ → (ℕ → ℕ) → (ℕ → ℕ) → Type 0
Allowed n pointers read right =
    ((length (pointed_tracks n pointers) ≡ 0) × (differences n read right ≤ 1))
    ⊎ ((0 < length (pointed_tracks n pointers)) × (length (pointed_tracks n pointers) ≤ 2) × ((k : ℕ) → k < n → bit k pointers ≡ 0 → read k ≡ right k))

-- ---- the judgement

-- what a group is judged to be: the values of the group that fits it, tracks 0 to w, or why none does
pub data Judgement : Type 0 where
  corrected : List ℕ → Judgement
  many_pointed : Judgement
  no_group : Judgement

-- an error e in track k and none elsewhere
unfoldable pub error_at : ℕ → ℕ → ℕ → ℕ
error_at k e j = cond (eqb j k) e 0

-- the values that were read, errors taken off
unfoldable pub without : ℕ → (ℕ → ℕ) → Errors → Judgement
without w v (errors_in i e j d) = corrected (tabulate (suc w) (λ k. v k ⊕ error_at i e k ⊕ error_at j d k))
without w v too_many = many_pointed
without w v unaccounted = no_group

-- the errors that the values' syndromes and the pointed tracks tell of, taken off
unfoldable pub judged : ℕ → ℕ → ℕ → (ℕ → ℕ) → List ℕ → Judgement
judged w f n v tracks = without w v (errors_of w f n (parity_syndrome w v) (check_syndrome w f v) tracks)

-- ---- what is changed

-- the tracks in which two groups of n tracks differ, as a map
unfoldable pub changed_map : ℕ → List ℕ → List ℕ → ℕ
changed_map n read right = of_bits (tabulate n (λ k. cond (eqb (get_or read k 0) (get_or right k 0)) 0 1))
