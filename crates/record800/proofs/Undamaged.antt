-- A written record that is read forward without damage is delivered with its data and no character changed, so it has one list of data;
-- and a reading with no character changed is without damage (the notice, second term).
-- Assumes nothing.
use mathlib.Core.Path.{◌≡◌, sym, ap, ap₂, ◌∙◌}
use mathlib.Core.Bool.{Bool, true, false, ◌&&◌}
use mathlib.Core.List.{List, ◌∷◌}
use Prim.Native.Nat.{ℕ, ◌+◌, ◌-◌, ◌≤◌}
use native.Mathlib.Omega.{arith}
use borrow.Author.Tests.{le-leb, le-ltb}
use lib.Bits.{xor_self}
use lib.Dec.{ltb}
use lib.ListN.{length, get_or, replicate}
use lib.Seq.{ext_get_or}
use Rattle.answer.specs.Answer.{delivered}
use Rattle.slices.specs.Above.{first_above}
use Rattle.indexed.specs.List.{tabulate, tabulate_from}
use Rattle.indexed.proofs.Differ.{equal_of_no_differences}
use Rattle.indexed.proofs.First.{first_none}
use Rattle.register.specs.Bit.{bit}
use Rattle.register.specs.Parity.{parity}
use Rattle.register.specs.Xor.{◌⊕◌}
use Rattle.cyclic.specs.Constants.{most_character, least_data, most_data, checks, tracks}
use Rattle.record800.specs.Fits.{IsData, Passes, Fits, characters_changed}
use Rattle.record800.specs.Read.{picture, track_changes, figures_of, expected_parity, wrong, wrong_count, judged_answer, read_data, answer_if, read_answer, length_suits, first_stray}
use Rattle.record800.specs.Record.{written_record}
use Rattle.record800.proofs.Answer.{passed_judged}
use Rattle.indexed.proofs.Total.{total_none}
use Rattle.record800.proofs.Fitting.{fits_candidate, fits_delivered, delivered_fits}
use Rattle.record800.proofs.Recorded.{length_record, record_lt, record_parity}
use Rattle.record800.proofs.Judged.{Judged, clean, one, several, none, judged}
use Rattle.record800.proofs.Picture.{length_picture, picture_forward}

-- ---- the written record, read forward without damage

module _ (bytes : List ℕ) (is_data : IsData bytes) where
  abbrev characters : List ℕ
  characters = written_record bytes

  abbrev n : ℕ
  n = length characters - checks

  abbrev l : List ℕ
  l = picture false characters

  long : length characters ≡ length bytes + checks
  long = length_record bytes

  character : (k : ℕ) → get_or l k 0 ≡ get_or characters k 0
  character k = ap (λ (r : List ℕ). get_or r k 0) (picture_forward characters)

  passes : Passes false characters
  unfolding length_suits first_stray first_above
  passes = record {
    lengths =
        ap₂ ◌&&◌ (le-leb (least_data + checks) (length characters) (omega (arith, long, is_data.some)))
        (le-leb (length characters) (most_data + checks) (omega (arith, long, is_data.within)));
    no_stray =
        first_none (λ v. ltb most_character v) l (length characters) (sym (length_picture false characters))
        (λ k h. le-ltb most_character (get_or l k 0) (omega (arith, character k, record_lt bytes is_data.are_bytes k)));
  }

  itself_fits : Fits false characters bytes
  itself_fits = record {
    are_data = is_data;
    as_long = sym long;
    track = 0;
    is_track = omega arith;
    one_track = λ t h apart k b. ap (bit t) (character k);
  }

  none_wrong : wrong_count n l ≡ 0
  unfolding wrong_count wrong
  none_wrong =
      let many : length bytes ≡ n = omega (arith, long) in
      total_none (n + checks) _
      (λ k h. ap (λ (p : ℕ). p ⊕ expected_parity n l k)
      (ap parity (character k)
      ∙ record_parity bytes is_data.are_bytes l k (omega arith)
      ∙ ap (λ (m : ℕ). expected_parity m l k) many)
      ∙ xor_self (expected_parity n l k))

  delivered_clean : judged_answer n l ≡ delivered (figures_of (length bytes) tracks 0)
  delivered_clean = by (judged n l)
    where
      by : Judged n l (judged_answer n l) → judged_answer n l ≡ delivered (figures_of (length bytes) tracks 0)
      by (clean w h a) = let many : n ≡ length bytes = omega (arith, long) in a ∙ ap (λ (m : ℕ). delivered (figures_of m tracks 0)) many
      by (one some j b h alone a) = absurd (omega (arith, none_wrong))
      by (several some i j h b r q a) = absurd (omega (arith, none_wrong))
      by (none nothing a) =
          absurd (nothing itself_fits.track itself_fits.is_track (fits_candidate false characters passes bytes itself_fits).1)

  only_itself : (others : List ℕ) → Fits false characters others → others ≡ bytes
  only_itself others f =
      let d = delivered_fits false characters passes _ delivered_clean in
      d.2 others f ∙ sym (d.2 bytes itself_fits)

  pub undamaged_data : read_data false characters ≡ bytes
  undamaged_data = (fits_delivered false characters passes bytes itself_fits only_itself).1

  pub undamaged_if : (enough : Bool) → enough ≡ true → answer_if false characters enough ≡ delivered (length bytes ∷ tracks ∷ 0 ∷ replicate tracks 0)
  unfolding track_changes tabulate tabulate_from
  undamaged_if enough some = passed_judged false characters enough passes some ∙ delivered_clean

  pub undamaged_answer : (space : ℕ) → length characters - checks ≤ space
      → read_answer false characters space ≡ delivered (length bytes ∷ tracks ∷ 0 ∷ replicate tracks 0)
  unfolding read_answer
  undamaged_answer space enough = undamaged_if _ (le-leb _ _ enough)

-- a written record has one list of data: they are read from it
pub one_data : (bytes others : List ℕ) → IsData bytes → IsData others → written_record bytes ≡ written_record others → bytes ≡ others
one_data bytes others d e same = sym (undamaged_data bytes d) ∙ ap (read_data false) same ∙ undamaged_data others e

-- ---- and back

pub unchanged : (backward : Bool) (characters bytes : List ℕ) → Fits backward characters bytes
    → characters_changed backward characters bytes ≡ 0 → picture backward characters ≡ written_record bytes
unfolding characters_changed
unchanged backward characters bytes f e =
    ext_get_or 0 _ _ (length_picture backward characters ∙ sym f.as_long ∙ sym (length_record bytes))
    (λ k h. equal_of_no_differences _ _ (length characters) e k (omega (arith, length_picture backward characters)))
