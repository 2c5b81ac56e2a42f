-- A 6250 reading that is refused: by 4 exactly where the first group that nothing fits has three or more tracks pointed, by 5 exactly where it
-- has fewer, one at most; or, where every group has something that fits, by 6 for padding that breaks its rule.
-- Assumes nothing.
use mathlib.Core.Path.{◌≡◌, refl, sym, ap, subst, ◌∙◌}
use mathlib.Core.Bool.{Bool, true, false, not, true≢false}
use mathlib.Core.List.{List}
use mathlib.Core.Logic.{◌⊎◌, inl, inr}
use Prim.Native.Nat.{ℕ, ◌<◌, ◌≤◌}
use native.Mathlib.Omega.{arith}
use borrow.Author.Tests.{not-true}
use lib.ListN.{length, get_or}
use Rattle.answer.specs.Answer.{refused, refused_for, number_of}
use Rattle.rectangular.specs.Correction.{pointed_tracks, Judgement, corrected, many_pointed, no_group}
use Rattle.rectangular.proofs.Correction.{nine_many, nine_none, many_nine}
use Rattle.record6250.specs.Fits.{Passes, FitsGroup, Fits}
use Rattle.record6250.specs.Group.{pointed, relied, judged_group, is_corrected, reason_of, right_bytes}
use Rattle.record6250.specs.Read.{read_group, read_map, judgement, first_unfit, judged_answer}
use Rattle.record6250.specs.Record.{group_words}
use Rattle.record6250.proofs.Cases.{ThreeCases, cases}
use Rattle.indexed.proofs.Below.{first_below_at, first_below_passes}
use Rattle.record6250.proofs.Fitting.{refused_none, group_fits}
use Rattle.record6250.proofs.FittingGroup.{length_right_bytes, group_complete, corrected_fits}
use Rattle.record6250.proofs.Reading.{words_below}
use Rattle.record6250.proofs.Relied.{relied_many, pointed_many, pointed_few}
use Rattle.answer.proofs.Apart.{not_both, same_number, same_place}

-- a judgement, by the number of its reason
is_many : (j : Judgement) → 4 ≡ number_of (reason_of j) → j ≡ many_pointed
unfolding reason_of
is_many (corrected u) e = absurd (omega arith)
is_many many_pointed e = refl
is_many no_group e = absurd (omega arith)

is_none : (j : Judgement) → is_corrected j ≡ false → 5 ≡ number_of (reason_of j) → j ≡ no_group
unfolding reason_of is_corrected
is_none (corrected u) t e = absurd (true≢false t)
is_none many_pointed t e = absurd (omega arith)
is_none no_group t e = refl

not_padding : (j : Judgement) → 6 ≡ number_of (reason_of j) → ⊥
unfolding reason_of
not_padding (corrected u) e = omega arith
not_padding many_pointed e = omega arith
not_padding no_group e = omega arith

kind_of : (j : Judgement) → (number_of (reason_of j) ≡ 4) ⊎ (number_of (reason_of j) ≡ 5)
unfolding reason_of
kind_of (corrected u) = inr refl
kind_of many_pointed = inl refl
kind_of no_group = inr refl

corrected_not_none : (u : List ℕ) → corrected u ≡ no_group → ⊥
corrected_not_none u e = let z : ◌≡◌ {A = ℕ} 0 1 = cc in omega arith

module _ (backward : Bool) (words maps : List ℕ) where
  -- the tracks that are pointed in group g
  abbrev pub tracks_pointed : ℕ → List ℕ
  tracks_pointed g = pointed_tracks 9 (pointed (read_group backward words maps g) (read_map backward words maps g))

  -- the words of these seven bytes fit group g
  abbrev pub BytesFit : ℕ → List ℕ → Type 0
  BytesFit g info = (length info ≡ 7) × ((k : ℕ) → get_or info k 0 < 256) × FitsGroup backward words maps g (group_words info)

  abbrev pub SomeFit : ℕ → Type 0
  SomeFit g = (info : List ℕ) × BytesFit g info

  module _ (passes : Passes backward words maps) where
    some_fit : (g : ℕ) → g < length maps → g < first_unfit backward words maps → SomeFit g
    some_fit g h b = (right_bytes (judgement backward words maps g), group_fits backward words maps passes g h b)

    none_fit : (g : ℕ) → g < length maps → judgement backward words maps g ≡ no_group → (info : List ℕ) → BytesFit g info → ⊥
    unfolding judgement FitsGroup
    none_fit g h e info f =
        corrected_not_none _
        (sym
        (group_complete (read_group backward words maps g) (read_map backward words maps g) (words_below backward words maps passes g h) info f.1
        f.2)
        ∙ e)

    -- the group at which a reading is refused
    unfit_at : (n g : ℕ) → judged_answer backward words maps ≡ refused n g → (n ≡ 6 → ⊥)
        → (g < length maps) × (first_unfit backward words maps ≡ g) × (n ≡ number_of (reason_of (judgement backward words maps g)))
        × (is_corrected (judgement backward words maps g) ≡ false)
    unfolding first_unfit
    unfit_at n g e other = by (cases backward words maps)
      where
        Claim : ℕ → Type 0
        Claim g =
            (g < length maps) × (first_unfit backward words maps ≡ g) × (n ≡ number_of (reason_of (judgement backward words maps g)))
            × (is_corrected (judgement backward words maps g) ≡ false)

        by : ThreeCases backward words maps (judged_answer backward words maps) → Claim g
        by (inl c) =
            subst Claim (sym (same_place n _ g _ (sym e ∙ c.1))) (
              c.0,
              refl,
              same_number n _ g _ (sym e ∙ c.1),
              not-true _ (first_below_passes (length maps) (λ g. not (is_corrected (judgement backward words maps g))) c.0),
            )
        by (inr (inl c)) = absurd (not_both _ n g (sym c.2 ∙ e))
        by (inr (inr c)) = absurd (other (same_number n 6 g 0 (sym e ∙ c.2)))

    pub many_refused : (g : ℕ) → judged_answer backward words maps ≡ refused 4 g
        → (g < length maps) × (3 ≤ length (tracks_pointed g)) × ((h : ℕ) → h < g → SomeFit h)
    unfolding judgement judged_group
    many_refused g e =
        let c = unfit_at 4 g e (λ q. omega arith) in (
          c.0,
          relied_many (read_group backward words maps g) (read_map backward words maps g)
              (nine_many _ (relied (read_group backward words maps g) (read_map backward words maps g)) (is_many _ c.2)),
          λ h b. some_fit h (omega arith) (omega (arith, c.1)),
        )

    pub none_refused : (g : ℕ) → judged_answer backward words maps ≡ refused 5 g
        → (g < length maps) × (length (tracks_pointed g) ≤ 1) × ((info : List ℕ) → BytesFit g info → ⊥) × ((h : ℕ) → h < g → SomeFit h)
    unfolding judgement judged_group
    none_refused g e =
        let c = unfit_at 5 g e (λ q. omega arith) in
        let none : judgement backward words maps g ≡ no_group = is_none _ c.3 c.2 in (
          c.0,
          pointed_few (read_group backward words maps g) (read_map backward words maps g)
              (nine_none _ (relied (read_group backward words maps g) (read_map backward words maps g)) none),
          none_fit g c.0 none,
          λ h b. some_fit h (omega arith) (omega (arith, c.1)),
        )

    -- and back: the first group that nothing fits is told, by its reason
    some_corrected : (g : ℕ) → g < length maps → SomeFit g → is_corrected (judgement backward words maps g) ≡ true
    unfolding judgement FitsGroup is_corrected
    some_corrected g h (info, f) =
        ap is_corrected
        (group_complete (read_group backward words maps g) (read_map backward words maps g) (words_below backward words maps passes g h) info f.1
        f.2)

    told_first : (g : ℕ) → g < length maps → ((h : ℕ) → h < g → SomeFit h) → is_corrected (judgement backward words maps g) ≡ false
        → judged_answer backward words maps ≡ refused_for (reason_of (judgement backward words maps g)) g
    unfolding first_unfit
    told_first g h before unfit = by (cases backward words maps)
      where
        is : first_unfit backward words maps ≡ g
        is =
            first_below_at (length maps) (λ g. not (is_corrected (judgement backward words maps g))) g h
            (λ k b. ap not (some_corrected k (omega arith) (before k b))) (ap not unfit)

        by : ThreeCases backward words maps (judged_answer backward words maps)
            → judged_answer backward words maps ≡ refused_for (reason_of (judgement backward words maps g)) g
        by (inl c) = c.1 ∙ ap (λ (k : ℕ). refused_for (reason_of (judgement backward words maps k)) k) is
        by (inr (inl c)) = absurd (omega (arith, is))
        by (inr (inr c)) = absurd (omega (arith, is))

    pub refused_by_many : (g : ℕ) → g < length maps → 3 ≤ length (tracks_pointed g) → ((h : ℕ) → h < g → SomeFit h)
        → judged_answer backward words maps ≡ refused 4 g
    unfolding judgement judged_group is_corrected reason_of
    refused_by_many g h many before =
        let is : judgement backward words maps g ≡ many_pointed =
        many_nine _ (relied (read_group backward words maps g) (read_map backward words maps g))
        (pointed_many (read_group backward words maps g) (read_map backward words maps g) many) in
        told_first g h before (ap is_corrected is) ∙ ap (λ (j : Judgement). refused_for (reason_of j) g) is

    pub refused_by_none : (g : ℕ) → g < length maps → length (tracks_pointed g) ≤ 2 → ((info : List ℕ) → BytesFit g info → ⊥)
        → ((h : ℕ) → h < g → SomeFit h) → judged_answer backward words maps ≡ refused 5 g
    unfolding judgement judged_group FitsGroup is_corrected reason_of
    refused_by_none g h few none before = by (judgement backward words maps g) refl
      where
        by : (j : Judgement) → judgement backward words maps g ≡ j → judged_answer backward words maps ≡ refused 5 g
        by (corrected u) e =
            let fits =
            corrected_fits (read_group backward words maps g) (read_map backward words maps g) (words_below backward words maps passes g h) (ap is_corrected e) in
            absurd (none (right_bytes (judgement backward words maps g)) (length_right_bytes (judgement backward words maps g), fits.0, fits.1))
        by many_pointed e =
            absurd
            (omega (
              arith,
              relied_many (read_group backward words maps g) (read_map backward words maps g)
                  (nine_many _ (relied (read_group backward words maps g) (read_map backward words maps g)) e),
            ))
        by no_group e = told_first g h before (ap is_corrected e) ∙ ap (λ (j : Judgement). refused_for (reason_of j) g) e

    pub padding_refused : (p : ℕ) → judged_answer backward words maps ≡ refused 6 p
        → (p ≡ 0) × ((g : ℕ) → g < length maps → SomeFit g) × ((bytes : List ℕ) → Fits backward words maps bytes → ⊥)
    padding_refused p e = by (cases backward words maps)
      where
        by : ThreeCases backward words maps (judged_answer backward words maps)
            → (p ≡ 0) × ((g : ℕ) → g < length maps → SomeFit g) × ((bytes : List ℕ) → Fits backward words maps bytes → ⊥)
        by (inl c) = absurd (not_padding _ (same_number 6 _ p _ (sym e ∙ c.1)))
        by (inr (inl c)) = absurd (not_both _ 6 p (sym c.2 ∙ e))
        by (inr (inr c)) = (
          same_place 6 6 p 0 (sym e ∙ c.2),
          λ g h. some_fit g h (omega (arith, c.0)),
          refused_none backward words maps passes 6 p e,
        )

  -- and there is no other refusal
  pub refused_kinds : (n p : ℕ) → judged_answer backward words maps ≡ refused n p → (n ≡ 4) ⊎ (n ≡ 5) ⊎ (n ≡ 6)
  refused_kinds n p e = by (cases backward words maps)
    where
      of : (number : ℕ) → n ≡ number → (number ≡ 4) ⊎ (number ≡ 5) → (n ≡ 4) ⊎ (n ≡ 5) ⊎ (n ≡ 6)
      of number q (inl k) = inl (q ∙ k)
      of number q (inr k) = inr (inl (q ∙ k))

      by : ThreeCases backward words maps (judged_answer backward words maps) → (n ≡ 4) ⊎ (n ≡ 5) ⊎ (n ≡ 6)
      by (inl c) = of _ (same_number n _ p _ (sym e ∙ c.1)) (kind_of _)
      by (inr (inl c)) = absurd (not_both _ n p (sym c.2 ∙ e))
      by (inr (inr c)) = inr (inr (same_number n 6 p 0 (sym e ∙ c.2)))
