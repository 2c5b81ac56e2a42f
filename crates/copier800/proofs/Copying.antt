-- A reading that is delivered, and the record of its data that is written, make the copy: its answer and its output.
-- Assumes nothing.
use mathlib.Core.Path.{◌≡◌, refl, sym, ap, ◌∙◌}
use mathlib.Core.Bool.{Bool, true, false}
use mathlib.Core.List.{List, [], ◌∷◌, ◌++◌}
use Prim.Native.Nat.{ℕ, ◌-◌, ◌*◌, ◌/◌, ◌≤◌}
use native.Mathlib.Omega.{arith}
use borrow.Author.Tests.{leb-true, leb-false, le-leb, lt-leb}
use lib.Dec.{leb}
use lib.ListN.{length, take, drop, length-append}
use lib.Seq.{take_at}
use Rattle.answer.specs.Answer.{Answer, delivered, retold, output_after}
use Rattle.copy800.proofs.Copy.{record_of}
use Rattle.copy800.specs.Copy.{copy_groups, copy_space, copied, copied_record, copy_answer}
use Rattle.record6250.proofs.Answer.{write_delivers}
use Rattle.record6250.specs.Record.{written_record}
use Rattle.record6250.specs.Written.{write_answer}
use Rattle.record800.proofs.Picture.{lengths_within}
use Rattle.record800.proofs.Answer.{length_data}
use Rattle.record800.specs.Read.{picture, answer_if, read_data}
use Rattle.reader800.proofs.Delivered.{Told, told}
use Rattle.reader800.specs.Stored.{stored_data}

-- so many groups have space exactly if there are so many times nine words
pub space_divided : (groups space : ℕ) → leb groups (space / 9) ≡ leb (9 * groups) space
space_divided groups space = by (leb (9 * groups) space) refl
  where
    by : (b : Bool) → leb (9 * groups) space ≡ b → leb groups (space / 9) ≡ b
    by true e = le-leb groups (space / 9) (omega (arith, leb-true (9 * groups) space e))
    by false e = lt-leb groups (space / 9) (omega (arith, leb-false (9 * groups) space e))

module _ (backward : Bool) (characters before : List ℕ) (size track : ℕ) (others : List ℕ)
    (is : delivered (size ∷ track ∷ others) ≡ answer_if backward characters (leb (copy_space (length characters)) (length before))) where
  -- ---- the bytes that are stored

  abbrev delivery : Told backward characters (leb (copy_space (length characters)) (length before)) size track
  delivery = told backward characters (leb (copy_space (length characters)) (length before)) size track others is

  abbrev stored : List ℕ → List ℕ
  stored bytes = stored_data (length characters - 2) (picture backward characters) track ++ drop (length characters - 2) bytes

  length_stored : length (stored_data (length characters - 2) (picture backward characters) track) ≡ size
  unfolding read_data
  length_stored = ap length delivery.data_told ∙ length_data _ _ ∙ sym delivery.all_data

  -- so many stand there as are told, and they are the data
  pub part_within : (bytes : List ℕ) → size ≤ length (stored bytes)
  part_within bytes = omega (arith, length-append (stored_data (length characters - 2) (picture backward characters) track) (drop (length characters - 2) bytes), length_stored)

  pub part_is : (bytes : List ℕ) → take size (stored bytes) ≡ read_data backward characters
  part_is bytes =
      take_at (stored_data (length characters - 2) (picture backward characters) track) (drop (length characters - 2) bytes) size length_stored
      ∙ delivery.data_told

  -- ---- the record that is written

  module _ (part : List ℕ) (same : part ≡ read_data backward characters) (answer written : Answer)
      (writes : written ≡ write_answer (length part) (length before))
      (answers : answer ≡ retold (λ groups. (size ∷ track ∷ others) ++ groups) written) where
    length_part : length part ≡ length characters - 2
    unfolding read_data
    length_part = ap length same ∙ length_data _ _

    -- the writer has space, and delivers
    delivers : written ≡ delivered (copy_groups (length characters) ∷ [])
    delivers =
        writes
        ∙ ap (λ (n : ℕ). write_answer n (length before)) length_part
        ∙ write_delivers (length characters - 2) (length before) (omega (arith, lengths_within backward characters delivery.passes))
        (leb-true (copy_space (length characters)) (length before) delivery.some)

    tells : answer ≡ delivered ((size ∷ track ∷ others) ++ (copy_groups (length characters) ∷ []))
    tells = answers ∙ ap (retold (λ groups. (size ∷ track ∷ others) ++ groups)) delivers

    pub answer_copied : answer ≡ copy_answer backward characters (length before)
    unfolding copy_answer
    answer_copied = tells ∙ ap (copied (copy_groups (length characters))) is

    pub output_copied : (after : List ℕ) → after ≡ output_after written (written_record part) before
        → after ≡ output_after answer (copied_record backward characters) before
    unfolding output_after
    output_copied after stores =
        stores
        ∙ ap (λ (a : Answer). output_after a (written_record part) before) delivers
        ∙ ap (λ (l : List ℕ). l ++ drop (length l) before) (sym (record_of backward characters part (sym same)))
        ∙ sym (ap (λ (a : Answer). output_after a (copied_record backward characters) before) tells)
