-- What a delivery says: its reading has passed the checks, and its data are those of the track that it tells.
-- Assumes nothing.
use mathlib.Core.Path.{◌≡◌, sym, ap, ◌∙◌}
use mathlib.Core.Bool.{Bool, true}
use mathlib.Core.List.{List, ◌∷◌}
use Prim.Native.Nat.{ℕ, ◌-◌, ◌%◌, ◌<◌}
use native.Mathlib.Omega.{arith}
use lib.ListN.{length}
use Rattle.indexed.specs.List.{tabulate}
use Rattle.indexed.proofs.Tabulate.{tabulate_same}
use Rattle.answer.specs.Answer.{delivered}
use Rattle.answer.proofs.Apart.{not_both}
use Rattle.cyclic.specs.Constants.{checks}
use Rattle.record800.specs.Fits.{Passes}
use Rattle.record800.specs.Read.{picture, figures_of, wrong_count, candidate, judged_answer, judged_data, answer_if, read_data}
use Rattle.record800.proofs.Answer.{passed_judged, delivered_if}
use Rattle.record800.proofs.Candidate.{candidate_same}
use Rattle.record800.proofs.Judged.{Judged, clean, one, several, none, judged, data_first, data_only}
use Rattle.reader800.specs.Stored.{stored_data}

module _ (n : ℕ) (l : List ℕ) where
  told_data : (size track : ℕ) (others : List ℕ) → delivered (size ∷ track ∷ others) ≡ judged_answer n l
      → (size ≡ n) × (track < 10) × (stored_data n l track ≡ judged_data n l)
  unfolding stored_data
  told_data size track others e = by (judged n l)
    where
      by : Judged n l (judged_answer n l) → (size ≡ n) × (track < 10) × (tabulate n (λ k. candidate n l track k % 256) ≡ judged_data n l)
      by (clean c h a) =
          let q : delivered (size ∷ track ∷ others) ≡ delivered (figures_of n 9 0) = e ∙ a in
          let nine : track ≡ 9 = cc in (
            cc,
            omega arith,
            tabulate_same n _ _ (λ k b. ap (λ (x : ℕ). x % 256) (candidate_same n l c track k (omega arith) ∙ sym (candidate_same n l c 0 k (omega arith))))
                ∙ sym (data_first n l h),
          )
      by (one s j b h only a) =
          let q : delivered (size ∷ track ∷ others) ≡ delivered (figures_of n j (wrong_count n l)) = e ∙ a in
          let is : track ≡ j = cc in
          (cc, omega arith, ap (λ (t : ℕ). tabulate n (λ k. candidate n l t k % 256)) is ∙ sym (data_only n l j b h only))
      by (several s i j b d h g a) = absurd (not_both _ _ _ (e ∙ a))
      by (none h a) = absurd (not_both _ _ _ (e ∙ a))

-- of a delivery with space enough or not: the checks have passed, so many bytes are told, and a pass for the track stores the data
pub record Told (backward : Bool) (characters : List ℕ) (enough : Bool) (size track : ℕ) : Type 0 where
  pub passes : Passes backward characters
  pub some : enough ≡ true
  pub all_data : size ≡ length characters - checks
  pub is_track : track < 10
  pub data_told : stored_data (length characters - checks) (picture backward characters) track ≡ read_data backward characters

pub told : (backward : Bool) (characters : List ℕ) (enough : Bool) (size track : ℕ) (others : List ℕ)
    → delivered (size ∷ track ∷ others) ≡ answer_if backward characters enough → Told backward characters enough size track
unfolding read_data
told backward characters enough size track others e =
    let p = delivered_if backward characters enough _ (sym e) in
    let d = told_data _ _ size track others (e ∙ passed_judged backward characters enough p.0 p.1) in
    record { passes = p.0; some = p.1; all_data = d.0; is_track = d.1; data_told = d.2 }
