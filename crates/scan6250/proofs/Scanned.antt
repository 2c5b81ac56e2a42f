-- A walk over the groups of a reading: what is known where it stops, and what it has gathered.
-- Assumes nothing.
use mathlib.Core.Path.{◌≡◌, refl, sym, ap, ◌∙◌}
use mathlib.Core.Bool.{Bool, true, false, cond, not}
use mathlib.Core.List.{List, ◌∷◌}
use Prim.Native.Nat.{ℕ, ◌+◌, ◌-◌, ◌<◌}
use native.Mathlib.Omega.{arith}
use borrow.Author.Tests.{lt-ltb, le-ltb}
use native.Mathlib.Nat.{le_refl}
use lib.Dec.{ltb}
use lib.ListN.{length, set}
use Rattle.indexed.specs.List.{tabulate, total}
use Rattle.indexed.proofs.Front.{tabulated_more}
use Rattle.indexed.proofs.Below.{first_below_at, first_below_none}
use Rattle.indexed.proofs.Tabulate.{tabulate_same}
use Rattle.register.proofs.Counts.{first_bits, bits_total, bits_all}
use Rattle.rectangular.specs.Constants.{tracks}
use Rattle.rectangular.proofs.Changed.{changed_lt}
use Rattle.answer.specs.Answer.{Answer, delivered, refused_for}
use Rattle.rectangular.specs.Correction.{Judgement, corrected}
use Rattle.rectangular.specs.Group.{information_of}
use Rattle.judge6250.specs.Told.{told_reason, told_judged, told_changed}
use Rattle.std.specs.Prelude.{Result, Ok, Err, MatchResult, IsErrAnd}
use Rattle.group6250.specs.Packed.{byte_at, values_of}
use Rattle.group6250.specs.declared.group.Group.{Group}
use Rattle.judge6250.specs.declared.judge.Correction.{Correction}
use Rattle.judge6250.specs.declared.errors.Unfit.{Unfit}
use Rattle.judge6250.specs.declared.errors.Unfit.TheVariants.{ManyPointed, NoGroup}
use Rattle.group6250.proofs.Packed.{value_low}
use Rattle.rectangular.proofs.Symmetry.{column_ext}
use Rattle.record6250.specs.Group.{is_corrected, reason_of, right_values, right_bytes, right_words}
use Rattle.record6250.specs.Read.{read_group, judgement, changed_tracks, first_unfit, changed_maps, changes, track_changes}
use Rattle.scan6250.specs.Told.{groups_answer, bytes_gathered, maps_gathered}

-- the bytes of a group that fits, as its packed tracks have them
pub packed_bytes : (g : Group) → information_of 8 (λ j. byte_at j g.tracks) ≡ right_bytes (corrected (values_of g))
unfolding right_bytes right_values information_of
packed_bytes g = tabulate_same 7 _ _ (λ k h. column_ext 8 _ _ (λ i b. sym (value_low g i b)) (7 - k))

-- what is told of a group that fits
pub told_corrected : (j : Judgement) (told : Result Correction Unfit) (c : Correction) → told ≡ Ok c → told_judged told ≡ j → j ≡ corrected (values_of c.group)
told_corrected j told c e t = sym t ∙ ap told_judged e

pub told_changed_lem : (n : ℕ) (told : Result Correction Unfit) (c : Correction) → told ≡ Ok c → (is_corrected (told_judged told) ≡ true → told_changed told ≡ n) → c.changed ≡ n
unfolding is_corrected
told_changed_lem n told c e t = sym (ap told_changed e) ∙ t (ap (λ (x : Result Correction Unfit). is_corrected (told_judged x)) e)

-- what an answer is whose reason is told in another way
module _ {A E D : Type 0} (from : Result A E) (answer : Result A D) (Q : E → D → Type 0) (cases : MatchResult from (λ v. answer ≡ Ok v) (λ e. IsErrAnd answer (Q e))) where
  pub was_ok : (v : A) → answer ≡ Ok v → from ≡ Ok v
  was_ok v is = by from cases
    where
      by : (r : Result A E) → MatchResult r (λ v. answer ≡ Ok v) (λ e. IsErrAnd answer (Q e)) → r ≡ Ok v
      by (Ok x) m = let same : ◌≡◌ {A = Result A D} (Ok x) (Ok v) = sym m ∙ is in let inner : x ≡ v = cc in ap Ok inner
      by (Err e) m = absurd (rw is at m)

  pub was_err : (d : D) → answer ≡ Err d → (e : E) × (from ≡ Err e) × Q e d
  was_err d is = by from cases
    where
      by : (r : Result A E) → MatchResult r (λ v. answer ≡ Ok v) (λ e. IsErrAnd answer (Q e)) → (e : E) × (r ≡ Err e) × Q e d
      by (Ok x) m = let same : ◌≡◌ {A = Result A D} (Ok x) (Err d) = sym m ∙ is in absurd (cc)
      by (Err e) m = (e, refl, rw is at m)

-- what is told of one that nothing fits
pub unfit_told : (unfit : Unfit) → (is_corrected (told_judged (Err unfit)) ≡ false) × (reason_of (told_judged (Err unfit)) ≡ told_reason unfit)
unfolding is_corrected reason_of
unfit_told ManyPointed = (refl, refl)
unfit_told NoGroup = (refl, refl)

module _ (backward : Bool) (words maps : List ℕ) where
  -- what a walk promises at its end
  abbrev pub Ends : Answer → List ℕ → List ℕ → List ℕ → List ℕ → Type 0
  Ends answer body changed body₀ changed₀ =
      (answer ≡ groups_answer backward words maps)
      × ((body ≡ bytes_gathered backward words maps (first_unfit backward words maps) body₀)
      × (changed ≡ maps_gathered backward words maps (first_unfit backward words maps) changed₀))

  abbrev pub AllFit : ℕ → Type 0
  AllFit g = (j : ℕ) → j < g → is_corrected (judgement backward words maps j) ≡ true

  module _ (g : ℕ) (before : AllFit g) where
    pub unfit_at : g < length maps → is_corrected (judgement backward words maps g) ≡ false → first_unfit backward words maps ≡ g
    unfolding first_unfit
    unfit_at h e =
        first_below_at (length maps) (λ g. not (is_corrected (judgement backward words maps g))) g h (λ j b. ap not (before j b)) (ap not e)

    -- a walk that stops at a group that nothing fits
    unfit_answer : g < length maps → (j : Judgement) → judgement backward words maps g ≡ j → is_corrected j ≡ false
        → groups_answer backward words maps ≡ refused_for (reason_of j) g
    unfolding groups_answer
    unfit_answer h j e unfit =
        let at = unfit_at h (ap is_corrected e ∙ unfit) in
        ap (λ (u : ℕ). cond (ltb u (length maps)) (refused_for (reason_of (judgement backward words maps u)) u) (delivered (changes backward words maps ∷ track_changes backward words maps))) at
        ∙ ap (λ (b : Bool). cond b (refused_for (reason_of (judgement backward words maps g)) g) (delivered (changes backward words maps ∷ track_changes backward words maps)))
        (lt-ltb g (length maps) h)
        ∙ ap (λ (j : Judgement). refused_for (reason_of j) g) e

    -- what was gathered by then is told of the first group that nothing fits
    pub stopped : g < length maps → (j : Judgement) → judgement backward words maps g ≡ j → is_corrected j ≡ false
        → (answer : Answer) → answer ≡ refused_for (reason_of j) g → (body changed body₀ changed₀ : List ℕ)
        → body ≡ bytes_gathered backward words maps g body₀ → changed ≡ maps_gathered backward words maps g changed₀
        → Ends answer body changed body₀ changed₀
    stopped h j e unfit answer told body changed body₀ changed₀ bytes marks =
        let at = sym (unfit_at h (ap is_corrected e ∙ unfit)) in (
          told ∙ sym (unfit_answer h j e unfit),
          (bytes ∙ ap (λ (n : ℕ). bytes_gathered backward words maps n body₀) at, marks ∙ ap (λ (n : ℕ). maps_gathered backward words maps n changed₀) at),
        )

  none_unfit : AllFit (length maps) → first_unfit backward words maps ≡ length maps
  unfolding first_unfit
  none_unfit all = first_below_none (length maps) (λ g. not (is_corrected (judgement backward words maps g))) (λ j h. ap not (all j h))

  all_answer : AllFit (length maps) → groups_answer backward words maps ≡ delivered (changes backward words maps ∷ track_changes backward words maps)
  unfolding groups_answer
  all_answer all =
      ap (λ (u : ℕ). cond (ltb u (length maps)) (refused_for (reason_of (judgement backward words maps u)) u) (delivered (changes backward words maps ∷ track_changes backward words maps)))
      (none_unfit all)
      ∙ ap (λ (b : Bool). cond b (refused_for (reason_of (judgement backward words maps (length maps))) (length maps)) (delivered (changes backward words maps ∷ track_changes backward words maps)))
      (le-ltb (length maps) (length maps) (le_refl (length maps)))

  -- a walk that comes to the end
  pub ended : AllFit (length maps) → (answer : Answer) → answer ≡ delivered (changes backward words maps ∷ track_changes backward words maps) → (body changed body₀ changed₀ : List ℕ)
      → body ≡ bytes_gathered backward words maps (length maps) body₀ → changed ≡ maps_gathered backward words maps (length maps) changed₀
      → Ends answer body changed body₀ changed₀
  ended all answer told body changed body₀ changed₀ bytes marks =
      let at = sym (none_unfit all) in (
        told ∙ sym (all_answer all),
        (bytes ∙ ap (λ (n : ℕ). bytes_gathered backward words maps n body₀) at, marks ∙ ap (λ (n : ℕ). maps_gathered backward words maps n changed₀) at),
      )

  -- the changes, and those of each track, counted to the end
  pub all_changes : total 10 (first_bits (changed_tracks backward words maps) (length maps)) ≡ changes backward words maps
  unfolding changes changed_tracks
  all_changes =
      bits_total (changed_tracks backward words maps) (length maps) 10
      (λ g h. omega (arith, changed_lt 9 (read_group backward words maps g) (right_words (judgement backward words maps g))))

  pub all_changed : tabulate tracks (first_bits (changed_tracks backward words maps) (length maps)) ≡ track_changes backward words maps
  unfolding track_changes changed_maps
  all_changed = bits_all (changed_tracks backward words maps) (length maps) tracks

  -- the map of one group more
  pub maps_more : (g : ℕ) (out : List ℕ) (m : ℕ) → g < length out → m ≡ changed_tracks backward words maps g
      → set (maps_gathered backward words maps g out) g m ≡ maps_gathered backward words maps (g + 1) out
  unfolding maps_gathered
  maps_more g out m h e = tabulated_more (changed_tracks backward words maps) out g m h e
