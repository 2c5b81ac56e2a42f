-- The numbers of a group, as the code stores them: the nine words of the group with its parity track complemented.
-- Assumes nothing.
use mathlib.Core.Path.{◌≡◌, refl}
use mathlib.Core.List.{List}
use Prim.Native.Nat.{ℕ, ◌<◌}
use lib.ListN.{length, get_or}
use Rattle.indexed.specs.List.{tabulate, tabulate_from}
use Rattle.indexed.proofs.Tabulate.{length_tabulate, get_d_tabulate}
use Rattle.register.specs.Xor.{◌⊕◌}
use Rattle.group_code.specs.Code.{word_of}
use Rattle.group6250.specs.Packed.{values_of}
use Rattle.group6250.specs.declared.group.Group.{Group}
use Rattle.record6250.specs.Tape.{numbers_from}
use Rattle.record6250.specs.Track.{recorded, word_on, words_of}

-- the word of each value of a group
pub coded : Group → List ℕ
coded g = tabulate 9 (λ k. word_of (get_or (values_of g) k 0))

pub length_coded : (g : Group) → length (coded g) ≡ 9
unfolding coded
length_coded g = length_tabulate 9 _

pub coded_at : (g : Group) (j : ℕ) → j < 9 → get_or (coded g) j 0 ≡ word_of (get_or (values_of g) j 0)
unfolding coded
coded_at g j h = get_d_tabulate 9 _ j 0 h

-- the group with its parity track complemented: the words of its values are the words of the group
abbrev pub complemented : Group → Group
complemented g = record { tracks = g.tracks; parity = g.parity ⊕ 255 }

pub complemented_coded : (g : Group) → coded (complemented g) ≡ numbers_from (words_of (values_of g))
unfolding coded numbers_from words_of word_on recorded values_of tabulate tabulate_from
complemented_coded g = refl
