-- A written record that is read forward without damage is delivered with its data and no word changed, so it has one list of data; and
-- a reading with no word changed is without damage (the notice, second term).
-- Assumes nothing.
use mathlib.Core.Path.{◌≡◌, refl, sym, ap, ap₂, subst, ◌∙◌}
use mathlib.Core.Bool.{Bool, false, ◌&&◌, ◌||◌}
use mathlib.Core.List.{List, ◌∷◌}
use mathlib.Core.Logic.{inl}
use Prim.Native.Nat.{ℕ, ◌-◌, ◌*◌, ◌<◌, ◌≤◌}
use native.Mathlib.Omega.{arith}
use borrow.Author.Tests.{lt-ltb, le-leb, eq-eqb}
use lib.Dec.{ltb}
use lib.ListN.{length, get_or, replicate, length-replicate, get_or-replicate}
use lib.Seq.{ext_get_or}
use Rattle.answer.specs.Answer.{delivered}
use Rattle.slices.specs.Turned.{turned_place}
use Rattle.indexed.proofs.Blocks.{blocks_same}
use Rattle.indexed.proofs.Differ.{differences_none, equal_of_no_differences}
use Rattle.indexed.specs.List.{tabulate, tabulate_from}
use Rattle.indexed.proofs.Tabulate.{tabulate_same}
use Rattle.indexed.proofs.Total.{total_none, none_of_total}
use Rattle.group_code.specs.Word.{illegality}
use Rattle.rectangular.specs.Constants.{feedback, tracks, numbers_per_group}
use Rattle.rectangular.specs.Correction.{pointed_tracks, Allowed}
use Rattle.rectangular.specs.Group.{track}
use Rattle.rectangular.proofs.Equations.{Below}
use Rattle.rectangular.proofs.Pointed.{none_pointed}
use Rattle.record6250.specs.Fits.{IsData, Passes, FitsGroup, Fits, words_changed, track_differences}
use Rattle.record6250.specs.Group.{relied}
use Rattle.record6250.specs.Picture.{group_lent, group_read, map_read}
use Rattle.record6250.specs.Read.{read_numbers, read_group, read_map, lengths_suit, stray_at, first_stray, read_data, read_answer}
use Rattle.record6250.specs.Record.{body, groups_for, group_bytes, group_words, written_record}
use Rattle.record6250.specs.Tape.{stray_numbers, numbers_from}
use Rattle.indexed.proofs.Below.{first_below_none}
use Rattle.record6250.proofs.Answer.{answer_passed}
use Rattle.record6250.proofs.Fitting.{fits_delivered}
use Rattle.record6250.proofs.FittingGroup.{group_word, tracks_group}
use Rattle.record6250.proofs.Padding.{body_below}
use Rattle.record6250.proofs.Picture.{length_lent, length_read, lent_joined}
use Rattle.record6250.proofs.Reading.{words_long, none_stray_lent, group_bytes_bounded}
use Rattle.record6250.proofs.Record.{length_record, written_lent, written_group}
use Rattle.record6250.proofs.Relied.{none_illegal, none_relied}
use Rattle.record6250.proofs.Tape.{numbers_back, written_not_stray}
use Rattle.record6250.proofs.Track.{word_on_lt, word_on_legal}

-- ---- the words of a group as they are written: legal, of ten bits

module _ (info : List ℕ) (small : Below 8 info) where
  track_lt : (k : ℕ) → k < 9 → track 8 feedback info k < 256
  track_lt k h = (tracks_group info small).bounds k (omega arith)

  written_unpointed : relied (group_words info) 0 ≡ 0
  written_unpointed =
      none_relied (group_words info)
      (none_illegal (group_words info) (λ k h. ap illegality (group_word info k h) ∙ word_on_legal k (track 8 feedback info k) (track_lt k h)))

  none_written : stray_numbers (numbers_from (group_words info)) ≡ false
  none_written = written_not_stray (group_words info) (λ k h. rw (group_word info k h) (word_on_lt k (track 8 feedback info k) (track_lt k h)))

-- with no track pointed, a group fits itself
itself_allowed : (pointers : ℕ) (v : ℕ → ℕ) → pointers ≡ 0 → Allowed 9 pointers v v
unfolding Allowed
itself_allowed pointers v e =
    inl (ap (λ (p : ℕ). length (pointed_tracks 9 p)) e ∙ ap length (none_pointed 9), omega (arith, differences_none v v 9 (λ k h. refl)))

-- ---- the written record, read forward without damage

-- no track is pointed by the drive
abbrev pub no_pointers : List ℕ → List ℕ
no_pointers bytes = replicate (groups_for (length bytes)) 0

module _ (bytes : List ℕ) (is_data : IsData bytes) where
  abbrev words : List ℕ
  words = written_record bytes

  abbrev maps : List ℕ
  maps = no_pointers bytes

  many : length maps ≡ groups_for (length bytes)
  many = length-replicate (groups_for (length bytes)) 0

  long : length words ≡ numbers_per_group * length maps
  long = length_record bytes ∙ ap (λ (n : ℕ). numbers_per_group * n) (sym many)

  info_below : (g : ℕ) → Below 8 (group_bytes g (body bytes))
  info_below = group_bytes_bounded 256 (body bytes) (body_below bytes is_data.are_bytes)

  group_same : (g : ℕ) → g < length maps → read_group false words maps g ≡ group_words (group_bytes g (body bytes))
  unfolding read_group
  group_same g h = written_group bytes (length maps) g (omega (arith, many))

  unpointed : (g : ℕ) → g < length maps → read_map false words maps g ≡ 0
  unfolding read_map map_read turned_place
  unpointed g h = get_or-replicate (groups_for (length bytes)) g 0 0 (omega (arith, many))

  group_unpointed : (g : ℕ) → g < length maps → relied (read_group false words maps g) (read_map false words maps g) ≡ 0
  group_unpointed g h = ap₂ relied (group_same g h) (unpointed g h) ∙ written_unpointed (group_bytes g (body bytes)) (info_below g)

  itself_fits : Fits false words maps bytes
  unfolding FitsGroup
  itself_fits = record {
    are_data = is_data;
    as_many = sym many;
    each = λ g h. subst (FitsGroup false words maps g) (group_same g h ∙ sym (written_group bytes (length maps) g (omega (arith, many))))
        (itself_allowed _ (λ k. get_or (read_group false words maps g) k 0) (group_unpointed g h));
  }

  none_changed : words_changed false words maps bytes ≡ 0
  unfolding words_changed read_group
  none_changed = total_none (length maps) _ (λ g h. differences_none _ _ 9 (λ k b. refl))

  passes : Passes false words maps
  unfolding lengths_suit first_stray stray_at read_numbers groups_for
  passes = record {
    lengths =
        ap₂ ◌&&◌
        (ap₂ ◌&&◌ (lt-ltb 0 (length maps) (omega (arith, many))) (le-leb (length maps) 586 (omega (arith, many, is_data.within))))
        (eq-eqb (length words) (numbers_per_group * length maps) long);
    no_stray =
        first_below_none (length maps) _
        (λ g h. ap₂ (λ (l : List ℕ) (m : ℕ). stray_numbers l || ltb 511 m) (written_lent bytes (length maps) g (omega (arith, many))) (unpointed g h)
        ∙ ap (λ (b : Bool). b || ltb 511 0) (none_written (group_bytes g (body bytes)) (info_below g)));
  }

  pub undamaged_data : read_data false words maps ≡ bytes
  undamaged_data = (fits_delivered false words maps passes bytes itself_fits).1

  none_counted : track_differences false words maps bytes ≡ replicate tracks 0
  unfolding track_differences read_group tabulate tabulate_from
  none_counted =
      tabulate_same tracks _ (λ k. 0) (λ k h. differences_none (λ g. get_or (group_read false (length maps) words g) k 0) _ (length maps) (λ g b. refl))

  pub undamaged_answer : (space : ℕ) → 7 * length maps - 1 ≤ space
      → read_answer false words maps space ≡ delivered (length bytes ∷ 0 ∷ replicate tracks 0)
  undamaged_answer space enough =
      answer_passed false words maps passes space enough
      ∙ (fits_delivered false words maps passes bytes itself_fits).0
      ∙ ap₂ (λ (n : ℕ) (l : List ℕ). delivered (length bytes ∷ n ∷ l)) none_changed none_counted

-- a written record has one list of data: they are read from it
pub one_data : (bytes others : List ℕ) → IsData bytes → IsData others → written_record bytes ≡ written_record others → bytes ≡ others
one_data bytes others d e same =
    let groups : groups_for (length bytes) ≡ groups_for (length others) =
    omega (arith, ap length same, length_record bytes, length_record others) in
    sym (undamaged_data bytes d)
    ∙ ap₂ (λ (l : List ℕ) (n : ℕ). read_data false l (replicate n 0)) same groups
    ∙ undamaged_data others e

-- ---- and back

-- a forward reading in which no word differs is the record, number for number
module _ (words maps bytes : List ℕ) (passes : Passes false words maps) (fits : Fits false words maps bytes) (none : words_changed false words maps bytes ≡ 0) where
  same_words : (g : ℕ) → g < length maps → read_group false words maps g ≡ group_read false (length maps) (written_record bytes) g
  unfolding words_changed read_group
  same_words g h =
      ext_get_or 0 _ _ (length_read false (length maps) words g ∙ sym (length_read false (length maps) (written_record bytes) g))
      (λ k b. equal_of_no_differences _ _ 9 (none_of_total (length maps) _ none g h) k (omega (arith, length_read false (length maps) words g)))

  same_numbers : (g : ℕ) → g < length maps → group_lent false (length maps) words g ≡ group_lent false (length maps) (written_record bytes) g
  unfolding read_group read_numbers group_read
  same_numbers g h =
      let within : g < groups_for (length bytes) = omega (arith, fits.as_many) in
      sym (numbers_back (group_lent false (length maps) words g) (length_lent false (length maps) words g) (none_stray_lent false words maps passes g h))
      ∙ ap numbers_from (same_words g h ∙ written_group bytes (length maps) g within)
      ∙ sym (written_lent bytes (length maps) g within)

  pub unchanged : words ≡ written_record bytes
  unchanged =
      sym (lent_joined words (length maps) (words_long false words maps passes))
      ∙ blocks_same (length maps) _ _ same_numbers
      ∙ lent_joined (written_record bytes) (length maps) (length_record bytes ∙ ap (λ (n : ℕ). numbers_per_group * n) fits.as_many)
