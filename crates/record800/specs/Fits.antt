-- What fits an 800 reading: the notice's third term, in terms of readings and written records only.
-- Assumes nothing.
use Rattle.std.specs.Prelude.{Bool, true, List, ◌≡◌, ℕ, ◌+◌, ◌<◌, ◌≤◌, ltb, length, get_or}
use Rattle.indexed.specs.Differ.{differences}
use Rattle.indexed.specs.List.{tabulate, first_below}
use Rattle.register.specs.Bit.{bit}
use Rattle.cyclic.specs.Constants.{tracks, least_data, most_data, checks}
use Rattle.record800.specs.Read.{picture, length_suits, first_stray}
use Rattle.record800.specs.Record.{written_record}

-- data within the limits
pub record IsData (bytes : List ℕ) : Type 0 where
  pub some : least_data ≤ length bytes
  pub within : length bytes ≤ most_data
  pub are_bytes : (k : ℕ) → get_or bytes k 0 < 256

module _ (backward : Bool) (characters : List ℕ) where
  -- the length and stray bits have passed
  pub record Passes : Type 0 where
    pub lengths : length_suits (length characters) ≡ true
    pub no_stray : first_stray backward characters ≡ length characters

  -- the written record of these data fits: "the same length, with all differences, if any, in one track"; a track differs if its
  -- bit does in any of the characters
  pub record Fits (bytes : List ℕ) : Type 0 where
    pub are_data : IsData bytes
    pub as_long : length bytes + checks ≡ length characters
    pub track : ℕ
    pub is_track : track < tracks
    pub one_track : (t : ℕ) → t < tracks → (t ≡ track → ⊥) → (k : ℕ) → k < length characters
        → bit t (get_or (picture backward characters) k 0) ≡ bit t (get_or (written_record bytes) k 0)

  -- in how many characters track t of the reading's forward picture differs from the written record
  unfoldable pub differences_in : List ℕ → ℕ → ℕ
  differences_in bytes t =
      differences (length characters) (λ k. bit t (get_or (picture backward characters) k 0)) (λ k. bit t (get_or (written_record bytes) k 0))

  -- the track that differs, or 9, and in how many characters the picture differs
  unfoldable pub track_changed : List ℕ → ℕ
  track_changed bytes = first_below tracks (λ t. ltb 0 (differences_in bytes t))

  unfoldable pub characters_changed : List ℕ → ℕ
  characters_changed bytes =
      differences (length characters) (λ k. get_or (picture backward characters) k 0) (λ k. get_or (written_record bytes) k 0)

  -- in how many characters each track differs, track 0 first (document 02, "2.7")
  unfoldable pub track_differences : List ℕ → List ℕ
  track_differences bytes = tabulate tracks (differences_in bytes)
