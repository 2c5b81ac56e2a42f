-- The written 6250 record (document 01, "The 6250 record"; "written record" is that paper's term): document 000's groups as the tracks
-- record them, track 8 complemented (document 02, "2.2").
-- Assumes nothing.
use Rattle.std.specs.Prelude.{ℕ, ◌+◌, ◌-◌, ◌*◌, ◌/◌, ◌%◌, List, [], ◌∷◌, ◌++◌, length, take, drop, replicate}
use Rattle.indexed.specs.List.{blocks}
use Rattle.rectangular.specs.Constants.{feedback, bytes_per_group, most_padding}
use Rattle.rectangular.specs.Group.{group}
use Rattle.record6250.specs.Tape.{numbers_from}
use Rattle.record6250.specs.Track.{words_of}

-- p, from 0 to 6: how many zero bytes stand behind so many bytes of data
unfoldable pub padding : ℕ → ℕ
padding n = most_padding - n % bytes_per_group

-- the data, p zero bytes, and one byte holding p: a multiple of 7
unfoldable pub body : List ℕ → List ℕ
body bytes = bytes ++ replicate (padding (length bytes)) 0 ++ (padding (length bytes) ∷ [])

-- the number of groups for so many bytes of data
unfoldable pub groups_for : ℕ → ℕ
groups_for n = n / bytes_per_group + 1

-- group g is cut from the body in order, its first byte being B7
unfoldable pub group_bytes : ℕ → List ℕ → List ℕ
group_bytes g bytes = take bytes_per_group (drop (bytes_per_group * g) bytes)

-- the nine words of a group, tracks 0 to 8
unfoldable pub group_words : List ℕ → List ℕ
group_words info = words_of (group 8 feedback info)

-- the numbers of the record's first groups, group after group
unfoldable pub first_groups : ℕ → List ℕ → List ℕ
first_groups n bytes = blocks n (λ g. numbers_from (group_words (group_bytes g (body bytes))))

-- the numbers of the written record
unfoldable pub written_record : List ℕ → List ℕ
written_record bytes = first_groups (groups_for (length bytes)) bytes
