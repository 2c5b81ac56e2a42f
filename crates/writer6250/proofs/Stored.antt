-- One group more: what the words hold once a group is stored behind the others.
-- Assumes nothing.
use mathlib.Core.Path.{◌≡◌, sym, ap, ◌∙◌}
use mathlib.Core.List.{List, ◌++◌}
use Prim.Native.Nat.{ℕ, ◌+◌, ◌-◌, ◌*◌, ◌/◌, ◌<◌}
use native.Mathlib.Nat.{mul_comm}
use native.Mathlib.Omega.{arith}
use borrow.Rule.Slice.PartMut.{put_mid}
use lib.ListN.{length, take, drop}
use lib.Seq.{take_all}
use Rattle.indexed.proofs.Part.{part_to_end, next_stored}
use Rattle.indexed.specs.List.{blocks}
use Rattle.rectangular.specs.Constants.{feedback}
use Rattle.rectangular.specs.Group.{group}
use Rattle.record6250.specs.Record.{body, groups_for, group_bytes, group_words, first_groups, written_record}
use Rattle.record6250.specs.Tape.{numbers_from}
use Rattle.record6250.specs.Track.{words_of}
use Rattle.record6250.proofs.Record.{length_group_numbers, length_record}
use Rattle.writer6250.specs.Stored.{groups_stored}
use Rattle.writer6250.proofs.Body.{full_group}

-- the group that is written from the part of the data that begins with it
pub full_words : (bytes values : List ℕ) (g : ℕ) → g < length bytes / 7
    → values ≡ group 8 feedback (take 7 (take (length bytes - g * 7) (drop (g * 7) bytes))) → numbers_from (words_of values) ≡ numbers_from (group_words (group_bytes g (body bytes)))
unfolding group_words
full_words bytes values g h e =
    let place : g * 7 ≡ 7 * g = mul_comm g 7 in
    ap (λ (l : List ℕ). numbers_from (words_of l))
    (e
    ∙ ap (λ (l : List ℕ). group 8 feedback (take 7 l)) (part_to_end (g * 7) bytes ∙ ap (λ (n : ℕ). drop n bytes) place)
    ∙ ap (group 8 feedback) (sym (full_group bytes g h)))

-- seven bytes of data are one group
pub one_stored : (last output : List ℕ) → length last ≡ 7 → groups_stored (length last / 7) last output ≡ numbers_from (group_words last) ++ drop 9 output
unfolding groups_stored first_groups blocks
one_stored last output seven =
    ap (λ (n : ℕ). groups_stored (n / 7) last output) seven
    ∙ ap (λ (l : List ℕ). numbers_from (group_words l) ++ drop 9 output) (full_group last 0 (rw seven (omega arith)) ∙ take_all 7 last (rw seven (omega arith)))

module _ (bytes output : List ℕ) (g : ℕ) where
  pub one_more : (words part nine : List ℕ) → words ≡ groups_stored g bytes output → nine ≡ numbers_from (group_words (group_bytes g (body bytes)))
      → part ≡ nine ++ drop 9 (take (length words - g * 9) (drop (g * 9) words))
      → put_mid (g * 9) (length words - g * 9) words part ≡ groups_stored (g + 1) bytes output
  unfolding groups_stored first_groups
  one_more words part nine whole are lent =
      next_stored 9 (λ g. numbers_from (group_words (group_bytes g (body bytes)))) (λ k. length_group_numbers (group_bytes k (body bytes))) g output words part nine
      whole are lent

-- all groups stored: the record in front, and behind it what was there
pub all_stored : (bytes output : List ℕ) → groups_stored (groups_for (length bytes)) bytes output ≡ written_record bytes ++ drop (length (written_record bytes)) output
unfolding groups_stored written_record
all_stored bytes output = ap (λ (n : ℕ). written_record bytes ++ drop n output) (sym (length_record bytes))
