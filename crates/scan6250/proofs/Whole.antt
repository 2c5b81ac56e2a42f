-- A record that is delivered: all of its groups are gathered, its data stand in front of the body, and the maps of its changed tracks in
-- front of theirs.
-- Assumes nothing.
use mathlib.Core.Path.{◌≡◌, refl, sym, ap, ◌∙◌}
use mathlib.Core.Bool.{Bool, true}
use mathlib.Core.List.{List, ◌∷◌, ◌++◌}
use mathlib.Core.Logic.{inl, inr}
use Prim.Native.Nat.{ℕ, ◌-◌, ◌*◌, ◌≤◌}
use native.Mathlib.Nat.{le_of_eq}
use native.Mathlib.Omega.{arith}
use lib.ListN.{length, take, drop, length-append}
use lib.Seq.{length-take-le, take-append-le, take_at}
use Rattle.answer.specs.Answer.{delivered}
use Rattle.answer.proofs.Apart.{not_both}
use Rattle.record6250.specs.Fits.{Passes}
use Rattle.record6250.specs.Read.{last_byte, unpadded, first_stray, first_unfit, read_body, read_data, changed_maps, changes, track_changes, judged_answer, answer_if}
use Rattle.record6250.proofs.Answer.{all_passed, delivered_if}
use Rattle.record6250.proofs.Cases.{ThreeCases, cases}
use Rattle.record6250.proofs.Counted.{length_changed}
use Rattle.record6250.proofs.Reading.{groups_within}
use Rattle.scan6250.specs.Told.{reached, bytes_gathered, maps_gathered}
use Rattle.scan6250.proofs.Padded.{body_size, gathered, reached_unfit}

module _ (backward : Bool) (words maps : List ℕ) (figures : List ℕ) (is_delivered : answer_if backward words maps true ≡ delivered figures) where
  passes : Passes backward words maps
  passes = (delivered_if backward words maps true figures is_delivered).0

  late : length maps ≤ first_stray backward words maps
  late = le_of_eq (sym passes.no_stray)

  judged : judged_answer backward words maps ≡ delivered figures
  judged = sym (all_passed backward words maps true passes.lengths refl late) ∙ is_delivered

  both : (first_unfit backward words maps ≡ length maps) × (figures ≡ length (read_data backward words maps) ∷ changes backward words maps ∷ track_changes backward words maps)
  both = by (cases backward words maps)
    where
      by : ThreeCases backward words maps (judged_answer backward words maps)
          → (first_unfit backward words maps ≡ length maps) × (figures ≡ length (read_data backward words maps) ∷ changes backward words maps ∷ track_changes backward words maps)
      by (inl c) = absurd (not_both figures _ _ (sym judged ∙ c.1))
      by (inr (inl c)) = let same = sym judged ∙ c.2 in (c.0, cc)
      by (inr (inr c)) = absurd (not_both figures _ _ (sym judged ∙ c.2))

  pub figures_are : figures ≡ length (read_data backward words maps) ∷ changes backward words maps ∷ track_changes backward words maps
  figures_are = both.1

  pub data_short : length (read_data backward words maps) ≤ 7 * length maps - 1
  unfolding read_data unpadded
  data_short =
      let body = read_body backward words maps in
      omega (arith, length-take-le (length body - 1 - last_byte body) body (omega arith), body_size backward words maps, (groups_within backward words maps passes).0)

  module _ (before : List ℕ) where
    whole : bytes_gathered backward words maps (reached backward words maps) before ≡ read_body backward words maps ++ drop (7 * length maps) before
    whole = ap (λ (n : ℕ). bytes_gathered backward words maps n before) (reached_unfit backward words maps late) ∙ gathered backward words maps before both.0

    pub data_within : length (read_data backward words maps) ≤ length (bytes_gathered backward words maps (reached backward words maps) before)
    data_within = rw whole (omega (arith, data_short, body_size backward words maps, length-append (read_body backward words maps) (drop (7 * length maps) before)))

    pub data_in_front : take (length (read_data backward words maps)) (bytes_gathered backward words maps (reached backward words maps) before) ≡ read_data backward words maps
    unfolding read_data unpadded
    data_in_front =
        let body = read_body backward words maps in
        let count = length body - 1 - last_byte body in
        let long : length (take count body) ≡ count = length-take-le count body (omega arith) in
        ap (take (length (take count body))) whole
        ∙ take-append-le (length (take count body)) body (drop (7 * length maps) before) (omega arith)
        ∙ ap (λ (n : ℕ). take n body) long

    -- and the maps of the tracks that are changed, in front of theirs
    all_maps : maps_gathered backward words maps (reached backward words maps) before ≡ changed_maps backward words maps ++ drop (length maps) before
    unfolding maps_gathered changed_maps
    all_maps = ap (λ (n : ℕ). maps_gathered backward words maps n before) (reached_unfit backward words maps late ∙ both.0)

    long : length (changed_maps backward words maps) ≡ length maps
    long = length_changed backward words maps

    pub maps_within : length maps ≤ length (maps_gathered backward words maps (reached backward words maps) before)
    maps_within = rw all_maps (omega (arith, long, length-append (changed_maps backward words maps) (drop (length maps) before)))

    pub maps_in_front : take (length maps) (maps_gathered backward words maps (reached backward words maps) before) ≡ changed_maps backward words maps
    maps_in_front =
        ap (take (length maps)) all_maps ∙ take_at (changed_maps backward words maps) (drop (length maps) before) (length maps) long
