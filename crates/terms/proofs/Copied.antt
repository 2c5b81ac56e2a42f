-- The second and the third term of a copy (document 02, request 2.6): where it is delivered, exactly one 800 record fits, and its data are read
-- from what was written, with no change.
-- Assumes nothing.
use mathlib.Core.Path.{◌≡◌, refl, sym, ap, subst, ◌∙◌}
use mathlib.Core.Bool.{Bool}
use mathlib.Core.List.{List, [], ◌∷◌, ◌++◌}
use Prim.Native.Nat.{ℕ, ◌-◌, ◌*◌, ◌≤◌}
use native.Mathlib.Nat.{le_of_eq}
use native.Mathlib.Omega.{arith}
use lib.ListN.{length, get_or, take, drop, length-append}
use lib.Seq.{take-append_seam, get_or-append_seam}
use Rattle.answer.specs.Answer.{Answer, delivered, output_after}
use Rattle.copy800.proofs.Copy.{data_fit, record_of, groups_copied, length_copied, copy_as_read, copy_passed, copied_turned, copy_turned}
use Rattle.copy800.specs.Copy.{copy_groups, copy_space, copied, copied_record, copy_answer}
use Rattle.record6250.specs.Record as six
use Rattle.record800.specs.Fits as eight
use Rattle.record800.specs.Read.{space_for}
use Rattle.terms.specs.Reading.{bpi6250, bpi800, Reading, at800, density, IsData, written_record, undamaged, Enough, Passes, Fits, OneFits, told, unchanged, read_answer, read_data}
use Rattle.terms.specs.Terms.{Counts, ReadsBack, groups_told, reading_told, copy_stored, Copies, DecidesCopy}
use Rattle.terms.proofs.Counted.{counts_told_lem}
use Rattle.terms.proofs.Second.{read_back}
use Rattle.terms.proofs.Third.{one_delivered, delivered_passes, delivered_one, output_of, decides}

-- the last of the figures is the number of groups
groups_last : (figures : List ℕ) (groups : ℕ) → groups_told (figures ++ (groups ∷ [])) ≡ groups
unfolding groups_told
groups_last figures groups =
    let behind : length (figures ++ (groups ∷ [])) - 1 ≡ length figures = omega (arith, length-append figures (groups ∷ [])) in
    ap (λ (k : ℕ). get_or (figures ++ (groups ∷ [])) k 0) behind ∙ get_or-append_seam figures groups [] 0

-- and what stands in front of it are the figures of the reading
reading_front : (figures : List ℕ) (groups : ℕ) → reading_told (figures ++ (groups ∷ [])) ≡ figures
unfolding reading_told
reading_front figures groups =
    let behind : length (figures ++ (groups ∷ [])) - 1 ≡ length figures = omega (arith, length-append figures (groups ∷ [])) in
    ap (λ (k : ℕ). take k (figures ++ (groups ∷ []))) behind ∙ take-append_seam figures (groups ∷ [])

module _ (backward : Bool) (characters : List ℕ) where
  -- the reading, and the space that a reader of it needs
  abbrev reading : Reading
  reading = at800 backward characters

  abbrev enough : ℕ
  enough = space_for (length characters)

  -- what is written is the 6250 record of the data that are read, and what is told is the number of its groups
  written_of : (bytes : List ℕ) → read_data reading ≡ bytes → copied_record backward characters ≡ written_record bpi6250 bytes
  unfolding read_data written_record
  written_of bytes same = record_of backward characters bytes same

  groups_of : (bytes : List ℕ) → read_data reading ≡ bytes → copy_groups (length characters) ≡ six.groups_for (length bytes)
  unfolding read_data
  groups_of bytes same = groups_copied backward characters ∙ ap (λ (l : List ℕ). six.groups_for (length l)) same

  module _ (answer : Answer) (before after : List ℕ) (answers : answer ≡ copy_answer backward characters (length before))
      (stores : after ≡ output_after answer (copied_record backward characters) before) where
    -- ---- the second term

    -- what stands at the front after a delivery
    front : (figures : List ℕ) → answer ≡ delivered figures → copy_stored figures after ≡ copied_record backward characters
    unfolding copy_stored
    front figures e =
        let passed = copy_passed backward characters (length before) figures (sym answers ∙ e) in
        let groups = ap groups_told passed.3 ∙ groups_last passed.1 (copy_groups (length characters)) in
        ap (λ (n : ℕ). take (9 * n) after) groups
        ∙ ap (λ (n : ℕ). take n after) (sym (length_copied backward characters))
        ∙ ap (take (length (copied_record backward characters))) (output_of answer figures (copied_record backward characters) before after e stores)
        ∙ take-append_seam (copied_record backward characters) _

    one_is_copied : (figures : List ℕ) → answer ≡ delivered figures
        → (bytes : List ℕ) × OneFits reading bytes
        × (copy_stored figures after ≡ written_record bpi6250 bytes) × ReadsBack bpi6250 (copy_stored figures after) bytes
    unfolding read_answer Fits IsData
    one_is_copied figures e =
        let passed = copy_passed backward characters (length before) figures (sym answers ∙ e) in
        let one = delivered_one reading enough passed.1 passed.2 in
        let bytes : List ℕ = one.0 in
        let read = one_delivered reading enough (delivered_passes reading enough passed.1 passed.2) bytes one.1 in
        let written = front figures e ∙ written_of bytes read.1 in (
          bytes,
          one.1,
          written,
          subst (λ (l : List ℕ). ReadsBack bpi6250 l bytes) (sym written) (read_back bpi6250 bytes (data_fit bytes one.1.fits.are_data)),
        )

    -- with space enough, what the reader with space enough tells and stores
    module _ (room : copy_space (length characters) ≤ length before) where
      as_read : (figures bytes : List ℕ) → read_answer reading enough ≡ delivered figures → read_data reading ≡ bytes
          → (answer ≡ delivered (figures ++ (six.groups_for (length bytes) ∷ []))) × (copied_record backward characters ≡ written_record bpi6250 bytes)
      unfolding read_answer
      as_read figures bytes is same = (
        answers
            ∙ copy_as_read backward characters (length before) room
            ∙ ap (copied (copy_groups (length characters))) is
            ∙ ap (λ (n : ℕ). delivered (figures ++ (n ∷ []))) (groups_of bytes same),
        written_of bytes same,
      )

      undamaged_is_copied : (bytes : List ℕ) → IsData bpi800 bytes → reading ≡ undamaged bpi800 backward (written_record bpi800 bytes)
          → (answer ≡ delivered (unchanged bpi800 (length bytes) ++ (six.groups_for (length bytes) ∷ [])))
          × (after ≡ written_record bpi6250 bytes ++ drop (length (written_record bpi6250 bytes)) before)
      unfolding Enough
      undamaged_is_copied bytes is_data e =
          let read = read_back bpi800 bytes is_data backward enough (subst (λ (q : Reading). Enough q enough) e (le_of_eq refl)) in
          let is = as_read _ bytes (ap (λ (q : Reading). read_answer q enough) e ∙ read.0) (ap read_data e ∙ read.1) in (
            is.0,
            output_of answer _ (copied_record backward characters) before after is.0 stores
                ∙ ap (λ (l : List ℕ). l ++ drop (length l) before) is.1,
          )

    copy_counts : (figures : List ℕ) → answer ≡ delivered figures → Counts bpi800 (reading_told figures)
    unfolding read_answer density
    copy_counts figures e =
        let passed = copy_passed backward characters (length before) figures (sym answers ∙ e) in
        subst (Counts bpi800) (sym (ap reading_told passed.3 ∙ reading_front passed.1 (copy_groups (length characters))))
        (counts_told_lem reading enough passed.1 passed.2)

    pub copies : Copies backward characters answer before after
    copies = record {
      one_copied = one_is_copied;
      undamaged_copied = λ bytes is_data e room. undamaged_is_copied room bytes is_data e;
      as_turned = (
        answers ∙ sym (copy_turned backward characters (length before)),
        stores ∙ ap (λ (l : List ℕ). output_after answer l before) (sym (copied_turned backward characters)),
      );
      counted = copy_counts;
    }

    -- ---- the third term

    pub copy_decides : eight.Passes backward characters → copy_space (length characters) ≤ length before
        → DecidesCopy backward characters answer before after
    unfolding DecidesCopy Passes Enough read_answer
    copy_decides passes room =
        decides reading _ _ answer (copied_record backward characters) before after stores
        (λ bytes one. let d = one_delivered reading enough (passes, le_of_eq refl) bytes one in as_read room (told reading bytes) bytes d.0 d.1)
        (λ figures e. let passed = copy_passed backward characters (length before) figures (sym answers ∙ e) in delivered_one reading enough passed.1 passed.2)
