-- What fits a 6250 reading: the notice's third term, in terms of readings and written records only ("fits", "reading" and
-- "written record" are document 01's terms).
-- Assumes nothing.
use Rattle.std.specs.Prelude.{Bool, true, false, List, ◌≡◌, ℕ, ◌<◌, ◌≤◌, length, get_or}
use Rattle.indexed.specs.Differ.{differences}
use Rattle.indexed.specs.List.{tabulate, total}
use Rattle.rectangular.specs.Constants.{tracks, most_data}
use Rattle.rectangular.specs.Correction.{Allowed, changed_map}
use Rattle.record6250.specs.Group.{relied}
use Rattle.record6250.specs.Picture.{group_read}
use Rattle.record6250.specs.Read.{read_group, read_map, lengths_suit, first_stray}
use Rattle.record6250.specs.Record.{groups_for, written_record}

-- data within the limits
pub record IsData (bytes : List ℕ) : Type 0 where
  pub within : length bytes ≤ most_data
  pub are_bytes : (k : ℕ) → get_or bytes k 0 < 256

module _ (backward : Bool) (words maps : List ℕ) where
  -- lengths and stray bits have passed
  pub record Passes : Type 0 where
    pub lengths : lengths_suit (length words) (length maps) ≡ true
    pub no_stray : first_stray backward words maps ≡ length maps

  -- nine words fit group g of the reading: "in each group only the pointed tracks differ, two at most, or, with none pointed, one
  -- track at most", where a track differs if its word does; and "where just one track is pointed, by the drive only, its word being legal,
  -- one track anywhere may differ" (document 02, "2.3")
  unfoldable pub FitsGroup : ℕ → List ℕ → Type 0
  FitsGroup g right =
      Allowed tracks (relied (read_group backward words maps g) (read_map backward words maps g)) (λ k. get_or (read_group backward words maps g) k 0)
      (λ k. get_or right k 0)

  -- the written record of these data fits: "the same number of groups", each of which fits
  pub record Fits (bytes : List ℕ) : Type 0 where
    pub are_data : IsData bytes
    pub as_many : groups_for (length bytes) ≡ length maps
    pub each : (g : ℕ) → g < length maps → FitsGroup g (group_read false (length maps) (written_record bytes) g)

  -- in how many words the reading differs from the written record, counted group by group
  unfoldable pub words_changed : List ℕ → ℕ
  words_changed bytes =
      total (length maps) (λ g. differences tracks (λ k. get_or (read_group backward words maps g) k 0)
      (λ k. get_or (group_read false (length maps) (written_record bytes) g) k 0))

  -- in how many words of each track, track 0 first (document 02, "2.7")
  unfoldable pub track_differences : List ℕ → List ℕ
  track_differences bytes =
      tabulate tracks (λ k. differences (length maps) (λ g. get_or (read_group backward words maps g) k 0)
      (λ g. get_or (group_read false (length maps) (written_record bytes) g) k 0))

  -- and in which tracks, a map for each group: bit k is set exactly if word k differs
  unfoldable pub maps_changed : List ℕ → List ℕ
  maps_changed bytes =
      tabulate (length maps) (λ g. changed_map tracks (read_group backward words maps g) (group_read false (length maps) (written_record bytes) g))
