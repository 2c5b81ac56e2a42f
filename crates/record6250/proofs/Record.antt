-- How long a written record is, and its groups as they lie.
-- Assumes nothing.
use mathlib.Core.Path.{◌≡◌, ap, ◌∙◌}
use mathlib.Core.Bool.{false}
use mathlib.Core.List.{List}
use Prim.Native.Nat.{ℕ, ◌*◌, ◌<◌}
use lib.ListN.{length}
use Rattle.slices.specs.Turned.{turned_place}
use Rattle.indexed.proofs.Blocks.{length_blocks}
use Rattle.rectangular.specs.Constants.{feedback, tracks, numbers_per_group}
use Rattle.rectangular.specs.Group.{group}
use Rattle.record6250.specs.Picture.{group_lent, group_read}
use Rattle.record6250.specs.Record.{body, groups_for, group_bytes, group_words, first_groups, written_record}
use Rattle.record6250.specs.Tape.{words_from, numbers_from}
use Rattle.record6250.proofs.Picture.{lent_of_blocks}
use Rattle.record6250.proofs.Tape.{length_numbers_from, words_back}
use Rattle.record6250.proofs.Track.{length_words_of}

pub length_group_words : (info : List ℕ) → length (group_words info) ≡ tracks
unfolding group_words
length_group_words info = length_words_of (group 8 feedback info)

pub length_group_numbers : (info : List ℕ) → length (numbers_from (group_words info)) ≡ numbers_per_group
length_group_numbers info = length_numbers_from (group_words info) (length_group_words info)

pub length_record : (bytes : List ℕ) → length (written_record bytes) ≡ numbers_per_group * groups_for (length bytes)
unfolding written_record first_groups
length_record bytes =
    length_blocks numbers_per_group (groups_for (length bytes)) _ (λ k h. length_group_numbers (group_bytes k (body bytes)))

pub written_lent : (bytes : List ℕ) (n g : ℕ) → g < groups_for (length bytes)
    → group_lent false n (written_record bytes) g ≡ numbers_from (group_words (group_bytes g (body bytes)))
unfolding written_record first_groups turned_place
written_lent bytes n g h = lent_of_blocks false n (groups_for (length bytes)) _ (λ k h. length_group_numbers (group_bytes k (body bytes))) g h

pub written_group : (bytes : List ℕ) (n g : ℕ) → g < groups_for (length bytes)
    → group_read false n (written_record bytes) g ≡ group_words (group_bytes g (body bytes))
unfolding group_read
written_group bytes n g h =
    ap (words_from false) (written_lent bytes n g h) ∙ words_back (group_words (group_bytes g (body bytes))) (length_group_words (group_bytes g (body bytes)))
