-- A copy is answered as its reading is with space enough, has as many words as are asked for, and is the same for the reading turned.
-- Assumes nothing.
use mathlib.Core.Path.{◌≡◌, sym, ap, ◌∙◌}
use mathlib.Core.Bool.{Bool, true, not}
use mathlib.Core.List.{List, [], ◌∷◌, ◌++◌}
use Prim.Native.Nat.{ℕ, ◌-◌, ◌*◌, ◌≤◌}
use native.Mathlib.Omega.{arith}
use borrow.Author.Tests.{le-leb, leb-true}
use lib.Dec.{leb}
use lib.ListN.{length}
use Rattle.answer.specs.Answer.{delivered}
use Rattle.answer.proofs.Retold.{retold_delivered}
use Rattle.cyclic.specs.Constants.{checks}
use Rattle.rectangular.specs.Constants.{numbers_per_group}
use Rattle.record6250.specs.Fits as six
use Rattle.record6250.specs.Record.{groups_for, written_record}
use Rattle.record6250.proofs.Record.{length_record}
use Rattle.record800.specs.Fits as eight
use Rattle.record800.specs.Read.{picture, space_for, answer_if, read_answer, read_data}
use Rattle.record800.proofs.Answer.{delivered_if, length_data}
use Rattle.record800.proofs.Backward.{turned_if, turned_data}
use Rattle.record800.proofs.Picture.{length_picture}
use Rattle.copy800.specs.Copy.{copy_groups, copy_space, copied, copied_record, copy_answer}

-- what an 800 record holds, a 6250 record can hold
pub data_fit : (bytes : List ℕ) → eight.IsData bytes → six.IsData bytes
data_fit bytes d = record { within = omega (arith, d.within); are_bytes = d.are_bytes }

module _ (backward : Bool) (characters : List ℕ) where
  -- what is written is the 6250 record of the data that are read
  pub record_of : (bytes : List ℕ) → read_data backward characters ≡ bytes → copied_record backward characters ≡ written_record bytes
  unfolding copied_record
  record_of bytes same = ap written_record same

  -- the groups that are told are those of the data, and the words are as many as there must be space for
  pub groups_copied : copy_groups (length characters) ≡ groups_for (length (read_data backward characters))
  unfolding read_data
  groups_copied = ap groups_for (sym (length_data (length characters - checks) (picture backward characters)))

  pub length_copied : length (copied_record backward characters) ≡ copy_space (length characters)
  unfolding copied_record
  length_copied = length_record (read_data backward characters) ∙ ap (λ (n : ℕ). numbers_per_group * n) (sym groups_copied)

  -- with space enough, the answer is that of a reader with space enough
  pub copy_as_read : (space : ℕ) → copy_space (length characters) ≤ space
      → copy_answer backward characters space ≡ copied (copy_groups (length characters)) (read_answer backward characters (space_for (length characters)))
  unfolding copy_answer read_answer
  copy_as_read space room =
      ap (λ (b : Bool). copied (copy_groups (length characters)) (answer_if backward characters b))
      (le-leb (copy_space (length characters)) space room ∙ sym (le-leb (space_for (length characters)) (space_for (length characters)) (omega arith)))

  -- what a delivery says
  pub copy_passed : (space : ℕ) (figures : List ℕ) → copy_answer backward characters space ≡ delivered figures
      → (copy_space (length characters) ≤ space) × (told : List ℕ) × (read_answer backward characters (space_for (length characters)) ≡ delivered told)
      × (figures ≡ told ++ (copy_groups (length characters) ∷ []))
  unfolding copy_answer
  copy_passed space figures e =
      let enough : Bool = leb (copy_space (length characters)) space in
      let judged = retold_delivered _ (answer_if backward characters enough) figures e in
      let room = leb-true (copy_space (length characters)) space (delivered_if backward characters enough judged.0 judged.1).1 in
      let read = retold_delivered _ (read_answer backward characters (space_for (length characters))) figures (sym (copy_as_read space room) ∙ e) in
      (room, read.0, read.1, read.2)

  -- ---- the same reading turned

  pub copied_turned : copied_record (not backward) (picture true characters) ≡ copied_record backward characters
  unfolding copied_record
  copied_turned = ap written_record (turned_data backward characters)

  pub copy_turned : (space : ℕ) → copy_answer (not backward) (picture true characters) space ≡ copy_answer backward characters space
  unfolding copy_answer
  copy_turned space =
      ap (λ (n : ℕ). copied (copy_groups n) (answer_if (not backward) (picture true characters) (leb (copy_space n) space))) (length_picture true characters)
      ∙ ap (copied (copy_groups (length characters))) (turned_if backward characters (leb (copy_space (length characters)) space))
