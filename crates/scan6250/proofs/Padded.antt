-- The answer of a reading by its groups and its padding, and what is gathered of it.
-- Assumes nothing.
use mathlib.Core.Path.{◌≡◌, refl, sym, ap, ◌∙◌}
use mathlib.Core.Bool.{Bool, true, false, cond, not}
use mathlib.Core.List.{List, ◌∷◌, ◌++◌}
use Prim.Native.Nat.{ℕ, ◌-◌, ◌*◌, ◌<◌, ◌≤◌}
use native.Mathlib.Nat.{mul_comm, le_refl}
use native.Mathlib.Omega.{arith}
use borrow.Author.Tests.{lt-ltb, le-ltb, ltb-false}
use lib.Dec.{ltb}
use lib.ListN.{length, get_or, take, drop, length-append}
use lib.Seq.{length-take-le, take_at}
use Rattle.indexed.specs.List.{tabulate, tabulate_from, blocks}
use Rattle.indexed.proofs.Below.{first_below_le}
use Rattle.indexed.proofs.Blocks.{length_blocks}
use Rattle.answer.specs.Answer.{Answer, delivered, refused, refused_for}
use Rattle.record6250.specs.Group.{is_corrected, reason_of}
use Rattle.record6250.specs.Read.{last_byte, padding_suits, unpadded, judgement, first_stray, first_unfit, read_body, read_data, changes, track_changes, judged_answer}
use Rattle.scan6250.specs.Told.{groups_answer, padding_answer, reached, bytes_gathered, maps_gathered}
use Rattle.record6250.proofs.FittingGroup.{length_right_bytes}
use Rattle.record6250.proofs.Padding.{last_le}
use Rattle.answer.proofs.Apart.{not_both}

-- ---- the bytes, and those before their padding

module _ (bytes : List ℕ) (long : 7 ≤ length bytes) where
  pub data_long : length (unpadded bytes) ≡ length bytes - 1 - get_or bytes (length bytes - 1) 0
  unfolding unpadded last_byte
  data_long = length-take-le (length bytes - 1 - get_or bytes (length bytes - 1) 0) bytes (omega arith)

  module _ (changed : List ℕ) where
    pub suits_answer : padding_suits bytes ≡ true → delivered ((length bytes - 1 - get_or bytes (length bytes - 1) 0) ∷ changed) ≡ padding_answer bytes changed
    unfolding padding_answer
    suits_answer e =
        ap (λ (n : ℕ). delivered (n ∷ changed)) (sym data_long)
        ∙ sym (ap (λ (b : Bool). cond b (delivered (length (unpadded bytes) ∷ changed)) (refused 6 0)) e)

    pub padding_answer_lem : padding_suits bytes ≡ false → refused 6 0 ≡ padding_answer bytes changed
    unfolding padding_answer
    padding_answer_lem e = sym (ap (λ (b : Bool). cond b (delivered (length (unpadded bytes) ∷ changed)) (refused 6 0)) e)

  pub last_six : padding_suits bytes ≡ true → get_or bytes (length bytes - 1) 0 ≤ 6
  unfolding last_byte
  last_six e = last_le bytes e

-- ---- the groups, and then the padding

module _ (backward : Bool) (words maps : List ℕ) where
  abbrev unfit : ℕ
  unfit = first_unfit backward words maps

  abbrev refusal : Answer
  refusal = refused_for (reason_of (judgement backward words maps unfit)) unfit

  pub groups_fit : (changed : List ℕ) → delivered changed ≡ groups_answer backward words maps
      → (unfit ≡ length maps) × (changed ≡ changes backward words maps ∷ track_changes backward words maps)
  unfolding groups_answer first_unfit
  groups_fit changed = by (ltb unfit (length maps)) refl
    where
      by : (b : Bool) → ltb unfit (length maps) ≡ b → delivered changed ≡ cond b refusal (delivered (changes backward words maps ∷ track_changes backward words maps))
          → (unfit ≡ length maps) × (changed ≡ changes backward words maps ∷ track_changes backward words maps)
      by true e q = absurd (not_both _ _ _ q)
      by false e q = (omega (arith, ltb-false unfit (length maps) e, first_below_le (length maps) (λ g. not (is_corrected (judgement backward words maps g)))), cc)

  pub groups_unfit : (n p : ℕ) → refused n p ≡ groups_answer backward words maps → refused n p ≡ judged_answer backward words maps
  unfolding groups_answer judged_answer
  groups_unfit n p = by (ltb unfit (length maps)) refl
    where
      by : (b : Bool) → ltb unfit (length maps) ≡ b → refused n p ≡ cond b refusal (delivered (changes backward words maps ∷ track_changes backward words maps))
          → refused n p ≡ cond b refusal (cond (padding_suits (read_body backward words maps)) (delivered (length (read_data backward words maps) ∷ changes backward words maps ∷ track_changes backward words maps)) (refused 6 0))
      by true e q = q
      by false e q = absurd (not_both _ n p (sym q))

  abbrev changed : List ℕ
  changed = changes backward words maps ∷ track_changes backward words maps

  pub fit_answer : unfit ≡ length maps → padding_answer (read_body backward words maps) changed ≡ judged_answer backward words maps
  unfolding judged_answer padding_answer read_data
  fit_answer e =
      sym (ap (λ (b : Bool). cond b refusal (padding_answer (read_body backward words maps) changed))
      (ap (λ (u : ℕ). ltb u (length maps)) e ∙ le-ltb (length maps) (length maps) (le_refl (length maps))))

  pub body_size : length (read_body backward words maps) ≡ length maps * 7
  unfolding read_body
  body_size =
      length_blocks 7 (length maps) _ (λ g h. length_right_bytes (judgement backward words maps g)) ∙ mul_comm 7 (length maps)

  -- ---- what is gathered

  -- the two slices, once so many groups are gathered
  abbrev Both : ℕ → List ℕ → List ℕ → List ℕ → List ℕ → Type 0
  Both n body changed body₀ changed₀ = (body ≡ bytes_gathered backward words maps n body₀) × (changed ≡ maps_gathered backward words maps n changed₀)

  pub none_gathered : first_stray backward words maps < length maps → (body changed : List ℕ) → Both (reached backward words maps) body changed body changed
  unfolding reached bytes_gathered maps_gathered blocks tabulate tabulate_from
  none_gathered h body changed =
      rw (ap (λ (b : Bool). cond b 0 unfit) (lt-ltb (first_stray backward words maps) (length maps) h)) (refl, refl)

  pub reached_unfit : length maps ≤ first_stray backward words maps → reached backward words maps ≡ unfit
  unfolding reached
  reached_unfit h = ap (λ (b : Bool). cond b 0 unfit) (le-ltb (first_stray backward words maps) (length maps) h)

  pub as_far : length maps ≤ first_stray backward words maps → (body changed body₀ changed₀ : List ℕ) → Both unfit body changed body₀ changed₀
      → Both (reached backward words maps) body changed body₀ changed₀
  as_far h body changed body₀ changed₀ both = rw (reached_unfit h) both

  module _ (before : List ℕ) (fits : unfit ≡ length maps) where
    pub gathered : bytes_gathered backward words maps unfit before ≡ read_body backward words maps ++ drop (7 * length maps) before
    unfolding bytes_gathered read_body
    gathered = ap (λ (n : ℕ). bytes_gathered backward words maps n before) fits

    pub body_long : length maps * 7 ≤ length (bytes_gathered backward words maps unfit before)
    body_long = rw gathered (omega (arith, body_size, length-append (read_body backward words maps) (drop (7 * length maps) before)))

    pub body_in_front : take (length maps * 7) (bytes_gathered backward words maps unfit before) ≡ read_body backward words maps
    body_in_front = ap (take (length maps * 7)) gathered ∙ take_at (read_body backward words maps) _ (length maps * 7) body_size
