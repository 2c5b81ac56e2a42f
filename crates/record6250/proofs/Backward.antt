-- Reading backward answers as reading forward does, places and data included (the notice, second term).
-- Assumes nothing.
use mathlib.Core.Path.{◌≡◌, refl, sym, ap, ap₂, ◌∙◌}
use mathlib.Core.Bool.{Bool, true, false, cond, not, ◌||◌}
use mathlib.Core.List.{List}
use Prim.Native.Nat.{ℕ, ◌-◌, ◌*◌, ◌<◌}
use lib.Dec.{leb, ltb}
use lib.ListN.{length}
use Rattle.indexed.specs.List.{first_below}
use Rattle.indexed.proofs.Below.{first_below_same}
use Rattle.answer.specs.Answer.{Answer, refused_for}
use Rattle.answer.specs.declared.Reason.TheVariants.{Length, Space, StrayBits}
use Rattle.record6250.specs.Group.{judged_group}
use Rattle.record6250.specs.Picture.{group_lent, group_read, picture_maps, turned_numbers}
use Rattle.record6250.specs.Read.{lengths_suit, read_numbers, read_group, read_map, judgement, stray_at, first_stray, read_data, changed_maps, judged_answer, answer_if, read_answer}
use Rattle.record6250.specs.Tape.{stray_numbers}
use Rattle.record6250.proofs.Alike.{same_answer, same_data, same_maps}
use Rattle.record6250.proofs.Answer.{length_refused}
use Rattle.record6250.proofs.Picture.{length_maps, map_turned, length_turned, lent_turned, read_turned}
use Rattle.record6250.proofs.Reading.{lengths_told}
use Rattle.record6250.proofs.Tape.{stray_turned}

module _ (backward : Bool) (words maps : List ℕ) where
  abbrev turned_maps : List ℕ
  turned_maps = picture_maps true maps

  as_many : length turned_maps ≡ length maps
  as_many = length_maps true maps

  pointers_turned : (g : ℕ) → g < length maps → read_map (not backward) (turned_numbers words) turned_maps g ≡ read_map backward words maps g
  unfolding read_map
  pointers_turned g h = map_turned backward maps g h

  module _ (long : length words ≡ 9 * length maps) where
    groups_turned : (g : ℕ) → g < length maps → read_group (not backward) (turned_numbers words) turned_maps g ≡ read_group backward words maps g
    unfolding read_group
    groups_turned g h =
        ap (λ (n : ℕ). group_read (not backward) n (turned_numbers words) g) as_many ∙ read_turned words (length maps) long backward g h

    strays_turned : (g : ℕ) → g < length maps → stray_at (not backward) (turned_numbers words) turned_maps g ≡ stray_at backward words maps g
    unfolding stray_at read_numbers
    strays_turned g h =
        ap₂ (λ (l : List ℕ) (m : ℕ). stray_numbers l || ltb 511 m)
        (ap (λ (n : ℕ). group_lent (not backward) n (turned_numbers words) g) as_many ∙ lent_turned words (length maps) long backward g h)
        (pointers_turned g h)
        ∙ ap (λ (t : Bool). t || ltb 511 (read_map backward words maps g)) (stray_turned (group_lent backward (length maps) words g))

    turned_stray : first_stray (not backward) (turned_numbers words) turned_maps ≡ first_stray backward words maps
    unfolding first_stray
    turned_stray =
        ap (λ (n : ℕ). first_below n (stray_at (not backward) (turned_numbers words) turned_maps)) as_many
        ∙ first_below_same (length maps) _ _ strays_turned

    judged_turned : (g : ℕ) → g < length maps → judgement (not backward) (turned_numbers words) turned_maps g ≡ judgement backward words maps g
    unfolding judgement
    judged_turned g h = ap₂ judged_group (groups_turned g h) (pointers_turned g h)

    abbrev turned_judged : judged_answer (not backward) (turned_numbers words) turned_maps ≡ judged_answer backward words maps
    turned_judged = same_answer backward (not backward) words maps (turned_numbers words) turned_maps as_many groups_turned judged_turned

  suits_turned : lengths_suit (length (turned_numbers words)) (length turned_maps) ≡ lengths_suit (length words) (length maps)
  suits_turned = ap₂ lengths_suit (length_turned words) as_many

  -- whatever the lengths, the answer is the same; and so are the data and the changed tracks, if the lengths suit
  pub answer_turned : (enough : Bool) → answer_if (not backward) (turned_numbers words) turned_maps enough ≡ answer_if backward words maps enough
  unfolding answer_if
  answer_turned enough = by (lengths_suit (length words) (length maps)) refl
    where
      by : (t : Bool) → lengths_suit (length words) (length maps) ≡ t
          → answer_if (not backward) (turned_numbers words) turned_maps enough ≡ answer_if backward words maps enough
      by true e =
          let long = (lengths_told (length words) (length maps) e).2 in
          ap₂ (λ (t : Bool) (n : ℕ). cond t (cond enough (cond (ltb (first_stray (not backward) (turned_numbers words) turned_maps) n) (refused_for StrayBits (first_stray (not backward) (turned_numbers words) turned_maps)) (judged_answer (not backward) (turned_numbers words) turned_maps)) (refused_for Space 0)) (refused_for Length 0))
          suits_turned as_many
          ∙ ap₂ (λ (s : ℕ) (a : Answer). cond (lengths_suit (length words) (length maps)) (cond enough (cond (ltb s (length maps)) (refused_for StrayBits s) a) (refused_for Space 0)) (refused_for Length 0))
          (turned_stray long) (turned_judged long)
      by false e =
          length_refused (not backward) (turned_numbers words) turned_maps enough (suits_turned ∙ e)
          ∙ sym (length_refused backward words maps enough e)

  pub turned_answer : (space : ℕ) → read_answer (not backward) (turned_numbers words) turned_maps space ≡ read_answer backward words maps space
  unfolding read_answer
  turned_answer space =
      ap (λ (n : ℕ). answer_if (not backward) (turned_numbers words) turned_maps (leb (7 * n - 1) space)) as_many
      ∙ answer_turned (leb (7 * length maps - 1) space)

  pub turned_data : lengths_suit (length words) (length maps) ≡ true → read_data (not backward) (turned_numbers words) turned_maps ≡ read_data backward words maps
  turned_data e =
      let long = (lengths_told (length words) (length maps) e).2 in
      same_data backward (not backward) words maps (turned_numbers words) turned_maps as_many (groups_turned long) (judged_turned long)

  pub turned_changed : lengths_suit (length words) (length maps) ≡ true
      → changed_maps (not backward) (turned_numbers words) turned_maps ≡ changed_maps backward words maps
  turned_changed e =
      let long = (lengths_told (length words) (length maps) e).2 in
      same_maps backward (not backward) words maps (turned_numbers words) turned_maps as_many (groups_turned long) (judged_turned long)
