-- The judgement of a group that was read, over the width: what it corrects to is a group that the pointers allow, there is one such
-- group at most, and where there is one it is found (document 000, theorems 1 and 2; the notice, third term). At nine tracks.
-- Assumes nothing.
use mathlib.Core.Path.{◌≡◌, refl, sym, ap, subst, ◌∙◌}
use mathlib.Core.Logic.{◌⊎◌, inl, inr}
use mathlib.Core.List.{List, [], ◌∷◌}
use Prim.Native.Nat.{ℕ, zero, suc, ◌+◌, ◌*◌, ◌/◌, ◌^◌, ◌<◌, ◌≤◌}
use native.Mathlib.Omega.{arith}
use lib.Bits.{xor_zero_r}
use lib.ListN.{length, get_or}
use lib.Seq.{ext_get_or}
use Rattle.indexed.specs.List.{tabulate, below}
use Rattle.indexed.proofs.Differ.{AgreeBut, one, differences_one, differences_both}
use Rattle.indexed.proofs.Tabulate.{length_tabulate, get_d_tabulate, tabulate_get_or}
use Rattle.register.specs.Bit.{bit}
use Rattle.register.specs.Exponent.{Exponent}
use Rattle.register.specs.Xor.{◌⊕◌}
use Rattle.rectangular.specs.Constants.{feedback, exponent}
use Rattle.rectangular.specs.Correction.{pointed_tracks, Allowed, error_at, corrected, many_pointed, no_group, without, judged}
use Rattle.rectangular.specs.Group.{IsGroup, Suits}
use Rattle.rectangular.specs.Syndrome.{parity_syndrome, check_syndrome, Errors, errors_in, too_many, unaccounted, one_error, two_errors, errors_of}
use Rattle.rectangular.proofs.Constants.{exponent_of_T}
use Rattle.rectangular.proofs.Distance.{two_tracks, three_tracks}
use Rattle.rectangular.proofs.Equations.{group_ext}
use Rattle.rectangular.proofs.Errors.{below_within, Accounts, OneFound, one_error_lem, one_found, two_errors_lem, errors_many, errors_too_many, errors_none, errors_two}
use Rattle.rectangular.proofs.Pointed.{pointed_lt, pointed_ascends, pointed_bit, outside, none_pointed}
use Rattle.rectangular.proofs.Suits.{nine_tracks}
use Rattle.rectangular.proofs.Syndrome.{no_error, untouched, parity_lt, check_lt, corrects_two, accounts}

-- a track that is neither of two is none of their list by index, and so with one
neither : (i j k : ℕ) → (k ≡ i → ⊥) → (k ≡ j → ⊥) → (t : ℕ) → t < 2 → k ≡ get_or (i ∷ j ∷ []) t 0 → ⊥
neither i j k ni nj zero h = ni
neither i j k ni nj (suc zero) h = nj
neither i j k ni nj (suc (suc t)) h = λ e. omega arith

not_it : (i k : ℕ) → (k ≡ i → ⊥) → (t : ℕ) → t < 1 → k ≡ get_or (i ∷ []) t 0 → ⊥
not_it i k ni zero h = ni
not_it i k ni (suc t) h = λ e. omega arith

-- ---- what is corrected

module _ (w f : ℕ) (s : Suits w f) (v : ℕ → ℕ) (bounds : (k : ℕ) → k ≤ w → v k < 2 ^ w) where
  abbrev right : ℕ → ℕ → ℕ → ℕ → ℕ → ℕ
  right i a j b k = v k ⊕ error_at i a k ⊕ error_at j b k

  -- u is a group that differs from what was read in tracks i and j at most
  abbrev Corrects : ℕ → ℕ → List ℕ → Type 0
  Corrects i j u = (length u ≡ suc w) × IsGroup w f (λ k. get_or u k 0) × AgreeBut (suc w) v (λ k. get_or u k 0) i j

  -- errors that account for the syndromes of the values, taken off
  taken_off : (i a j b : ℕ) → Accounts w f (parity_syndrome w v) (check_syndrome w f v) i a j b → (t : ℕ) → (k : ℕ) → AgreeBut (suc w) v (right i a j b) t k
      → (u : List ℕ) → tabulate (suc w) (right i a j b) ≡ u → Corrects t k u
  taken_off i a j b x t k agree u same =
      subst (Corrects t k) same (
        length_tabulate (suc w) (right i a j b),
        group_ext w f (right i a j b) _ (λ m h. sym (get_d_tabulate (suc w) (right i a j b) m 0 (omega arith)))
            (corrects_two w f s.fits v bounds i j a b x.first x.second x.small x.other_small x.parity x.check),
        λ m h ni nj. agree m h ni nj ∙ sym (get_d_tabulate (suc w) (right i a j b) m 0 h),
      )

  one_agrees : (i a : ℕ) → AgreeBut (suc w) v (right i a w 0) i i
  one_agrees i a k h ni nj =
      sym (ap (λ (x : ℕ). v k ⊕ error_at i a k ⊕ x) (no_error w k) ∙ xor_zero_r (v k ⊕ error_at i a k) ∙ untouched (v k) i a k ni)

  two_agree : (i a j b : ℕ) → AgreeBut (suc w) v (right i a j b) i j
  two_agree i a j b k h ni nj = sym (untouched _ j b k nj ∙ untouched (v k) i a k ni)

  abbrev told : List ℕ → Errors
  told tracks = one_error w f (parity_syndrome w v) (check_syndrome w f v) tracks

  module _ (tracks : List ℕ) (within : (t : ℕ) → t < length tracks → get_or tracks t 0 ≤ w) where
    abbrev cases : ((t : ℕ) × OneFound w f (parity_syndrome w v) (check_syndrome w f v) tracks t) ⊎ (told tracks ≡ unaccounted)
    cases = one_error_lem w f (parity_syndrome w v) (check_syndrome w f v) (parity_lt w f s.fits v bounds) tracks within

    one_sound : (u : List ℕ) → without w v (told tracks) ≡ corrected u
        → (t : ℕ) × (t < length tracks) × Corrects (get_or tracks t 0) (get_or tracks t 0) u
    unfolding without
    one_sound u e = by cases
      where
        by : ((t : ℕ) × OneFound w f (parity_syndrome w v) (check_syndrome w f v) tracks t) ⊎ (told tracks ≡ unaccounted)
            → (t : ℕ) × (t < length tracks) × Corrects (get_or tracks t 0) (get_or tracks t 0) u
        by (inl x) =
            let made = ap (without w v) x.1.is_told in
            let same : tabulate (suc w) (right (get_or tracks x.0 0) (parity_syndrome w v) w 0) ≡ u = cc in (
              x.0,
              x.1.within,
              taken_off _ _ w 0 x.1.accounts _ _ (one_agrees (get_or tracks x.0 0) (parity_syndrome w v)) u same,
            )
        by (inr q) = let made = ap (without w v) q in let z : ◌≡◌ {A = ℕ} 0 1 = cc in absurd (omega arith)

    -- a group that differs in one of the tracks is found
    one_complete : (g : ℕ → ℕ) → IsGroup w f g → (t : ℕ) → t < length tracks → AgreeBut (suc w) v g (get_or tracks t 0) (get_or tracks t 0)
        → (u : List ℕ) × (without w v (told tracks) ≡ corrected u)
    unfolding without
    one_complete g group t h agree = by cases
      where
        by : ((t : ℕ) × OneFound w f (parity_syndrome w v) (check_syndrome w f v) tracks t) ⊎ (told tracks ≡ unaccounted)
            → (u : List ℕ) × (without w v (told tracks) ≡ corrected u)
        by (inl x) = (_, ap (without w v) x.1.is_told)
        by (inr q) =
            absurd (one_found w f (parity_syndrome w v) (check_syndrome w f v) (parity_lt w f s.fits v bounds) tracks within t h
            (accounts w f s.fits v bounds g group (get_or tracks t 0) (within t h) agree) q)

-- ---- the theorems, over the width

module _ (w f n : ℕ) (s : Suits w f) (x : Exponent w f n) (odd : n ≡ 2 * (n / 2) + 1) (wide : w ≤ n) (v : ℕ → ℕ)
    (bounds : (k : ℕ) → k ≤ w → v k < 2 ^ w) (pointers : ℕ) where
  pub sound : (u : List ℕ) → judged w f n v (pointed_tracks (suc w) pointers) ≡ corrected u
      → (length u ≡ suc w) × IsGroup w f (λ k. get_or u k 0) × Allowed (suc w) pointers v (λ k. get_or u k 0)
  unfolding judged without errors_of two_errors Allowed
  sound u = by (pointed_tracks (suc w) pointers) refl
    where
      by : (l : List ℕ) → pointed_tracks (suc w) pointers ≡ l → judged w f n v l ≡ corrected u
          → (length u ≡ suc w) × IsGroup w f (λ k. get_or u k 0) × Allowed (suc w) pointers v (λ k. get_or u k 0)
      by [] q e =
          let c = one_sound w f s v bounds (below (suc w)) (below_within w) u e in
          (c.2.0, c.2.1, inl (omega (arith, ap length q), omega (arith, differences_one v _ _ (suc w) c.2.2)))
      by (i ∷ []) q e =
          let c = one_sound w f s v bounds (i ∷ []) (λ t h. omega (arith, pointed_lt (suc w) pointers (i ∷ []) q t h)) u e in
          let no : (k : ℕ) → bit k pointers ≡ 0 → k ≡ get_or (i ∷ []) c.0 0 → ⊥ = pointed_bit (suc w) pointers (i ∷ []) q c.0 c.1 in
          (c.2.0, c.2.1, inr (omega (arith, ap length q), omega (arith, ap length q), λ k h z. c.2.2 k (omega arith) (no k z) (no k z)))
      by (i ∷ j ∷ []) q e =
          let accounted =
          two_errors_lem w f (parity_syndrome w v) (check_syndrome w f v) n s x odd wide i j
          (pointed_ascends (suc w) pointers (i ∷ j ∷ []) q 0 1 (omega arith) (omega arith))
          (omega (arith, pointed_lt (suc w) pointers (i ∷ j ∷ []) q 1 (omega arith))) (parity_lt w f s.fits v bounds) (check_lt w f s.fits v bounds) in
          let c = taken_off w f s v bounds i _ j _ accounted i j (two_agree w f s v bounds i _ j _) u cc in (
            c.0,
            c.1,
            inr (
              omega (arith, ap length q),
              omega (arith, ap length q),
              λ k h z. c.2 k (omega arith) (pointed_bit (suc w) pointers (i ∷ j ∷ []) q 0 (omega arith) k z)
                  (pointed_bit (suc w) pointers (i ∷ j ∷ []) q 1 (omega arith) k z),
            ),
          )
      by (i ∷ j ∷ k ∷ more) q e = let z : ◌≡◌ {A = ℕ} 0 1 = cc in absurd (omega arith)

module _ (w f : ℕ) (s : Suits w f) (v : ℕ → ℕ) (pointers : ℕ) where
  -- two groups that are allowed are one, since they differ in two tracks at most
  pub unique : (g h : ℕ → ℕ) → IsGroup w f g → IsGroup w f h → Allowed (suc w) pointers v g → Allowed (suc w) pointers v h
      → (k : ℕ) → k ≤ w → g k ≡ h k
  unfolding Allowed
  unique g h gg gh (inl a) (inl b) = three_tracks w f s g h gg gh (omega (arith, differences_both v g h (suc w)))
  unique g h gg gh (inl a) (inr b) = absurd (omega arith)
  unique g h gg gh (inr a) (inl b) = absurd (omega arith)
  unique g h gg gh (inr a) (inr b) = by (pointed_tracks (suc w) pointers) refl
    where
      off : (k : ℕ) → k < suc w → bit k pointers ≡ 0 → g k ≡ h k
      off k q z = sym (a.2 k q z) ∙ b.2 k q z

      by : (l : List ℕ) → pointed_tracks (suc w) pointers ≡ l → (k : ℕ) → k ≤ w → g k ≡ h k
      by [] e = absurd (omega (arith, ap length e))
      by (i ∷ []) e =
          three_tracks w f s g h gg gh
          (omega (
            arith,
            differences_one g h i (suc w)
                (λ k q ni nj. off k q (outside (suc w) pointers (i ∷ []) e k q (not_it i k ni))),
          ))
      by (i ∷ j ∷ []) e =
          two_tracks w f s g h gg gh i j (pointed_ascends (suc w) pointers (i ∷ j ∷ []) e 0 1 (omega arith) (omega arith))
          (omega (arith, pointed_lt (suc w) pointers (i ∷ j ∷ []) e 1 (omega arith)))
          (λ k q ni nj. off k q (outside (suc w) pointers (i ∷ j ∷ []) e k q (neither i j k ni nj)))
      by (i ∷ j ∷ m ∷ more) e = absurd (omega (arith, ap length e))

module _ (w f n : ℕ) (s : Suits w f) (x : Exponent w f n) (odd : n ≡ 2 * (n / 2) + 1) (wide : w ≤ n) (v : ℕ → ℕ)
    (bounds : (k : ℕ) → k ≤ w → v k < 2 ^ w) (pointers : ℕ) (g : ℕ → ℕ) (group : IsGroup w f g)
    (allowed : Allowed (suc w) pointers v g) where
  -- some group is found
  some_group : (u : List ℕ) × (judged w f n v (pointed_tracks (suc w) pointers) ≡ corrected u)
  unfolding judged without errors_of two_errors Allowed below
  some_group = by (pointed_tracks (suc w) pointers) refl allowed
    where
      by : (l : List ℕ) → pointed_tracks (suc w) pointers ≡ l → Allowed (suc w) pointers v g
          → (u : List ℕ) × (judged w f n v l ≡ corrected u)
      by [] q (inl a) =
          let c = one v g w a.1 in
          one_complete w f s v bounds (below (suc w)) (below_within w) g group c.0 (omega (arith, length_tabulate (suc w) (λ k. k)))
          (λ k h ni nj. c.2 k h (λ e. ni (e ∙ sym (get_d_tabulate (suc w) (λ k. k) c.0 0 c.1))))
      by [] q (inr a) = absurd (omega (arith, ap length q))
      by (i ∷ []) q (inl a) = absurd (omega (arith, ap length q))
      by (i ∷ []) q (inr a) =
          one_complete w f s v bounds (i ∷ []) (λ t h. omega (arith, pointed_lt (suc w) pointers (i ∷ []) q t h)) g group 0 (omega arith)
          (λ k h ni nj. a.2 k h (outside (suc w) pointers (i ∷ []) q k h (not_it i k ni)))
      by (i ∷ j ∷ []) q a = (_, refl)
      by (i ∷ j ∷ k ∷ more) q (inl a) = absurd (omega (arith, ap length q))
      by (i ∷ j ∷ k ∷ more) q (inr a) = absurd (omega (arith, ap length q))

  -- and it is this group, as the only one
  pub complete : judged w f n v (pointed_tracks (suc w) pointers) ≡ corrected (tabulate (suc w) g)
  complete =
      let c = some_group in
      let r = sound w f n s x odd wide v bounds pointers c.0 c.1 in
      c.1
      ∙ ap corrected
      (ext_get_or 0 c.0 (tabulate (suc w) g) (r.0 ∙ sym (length_tabulate (suc w) g))
      (λ k h. let b : k < suc w = omega arith in
      unique w f s v pointers (λ k. get_or c.0 k 0) g r.1 group r.2 allowed k (omega arith)
      ∙ sym (get_d_tabulate (suc w) g k 0 b)))

-- ---- one pointed track against none

-- what may differ with one track pointed may differ with none pointed: it is one track
pub allowed_anywhere : (n pointers : ℕ) (read right : ℕ → ℕ) → length (pointed_tracks n pointers) ≡ 1 → Allowed n pointers read right → Allowed n 0 read right
unfolding Allowed
allowed_anywhere n pointers read right one (inl a) = absurd (omega arith)
allowed_anywhere n pointers read right one (inr a) = by (pointed_tracks n pointers) refl
  where
    by : (l : List ℕ) → pointed_tracks n pointers ≡ l → Allowed n 0 read right
    by [] e = absurd (omega (arith, ap length e))
    by (i ∷ []) e =
        inl (
          ap length (none_pointed n),
          differences_one read right i n (λ k h ni nj. a.2 k h (outside n pointers (i ∷ []) e k h (not_it i k ni))),
        )
    by (i ∷ j ∷ more) e = absurd (omega (arith, ap length e))

-- and what is corrected with one track pointed is corrected alike with none pointed
pub corrected_anywhere : (w f n : ℕ) → Suits w f → Exponent w f n → n ≡ 2 * (n / 2) + 1 → w ≤ n → (v : ℕ → ℕ) → ((k : ℕ) → k ≤ w → v k < 2 ^ w)
    → (pointers : ℕ) → length (pointed_tracks (suc w) pointers) ≡ 1 → (u : List ℕ)
    → judged w f n v (pointed_tracks (suc w) pointers) ≡ corrected u → judged w f n v (pointed_tracks (suc w) 0) ≡ corrected u
corrected_anywhere w f n s x odd wide v bounds pointers one u e =
    let r = sound w f n s x odd wide v bounds pointers u e in
    complete w f n s x odd wide v bounds 0 (λ k. get_or u k 0) r.1 (allowed_anywhere (suc w) pointers v _ one r.2)
    ∙ ap corrected (tabulate_get_or (suc w) u r.0)

-- ---- which judgement it is

-- why no group fits, by how many tracks are pointed
module _ (w f n : ℕ) (v : ℕ → ℕ) (l : List ℕ) where
  many_told : (e : Errors) → without w v e ≡ many_pointed → e ≡ too_many
  unfolding without
  many_told (errors_in i a j b) e = let z : ◌≡◌ {A = ℕ} 0 1 = cc in absurd (omega arith)
  many_told too_many e = refl
  many_told unaccounted e = let z : ◌≡◌ {A = ℕ} 0 1 = cc in absurd (omega arith)

  none_told : (e : Errors) → without w v e ≡ no_group → e ≡ unaccounted
  unfolding without
  none_told (errors_in i a j b) e = let z : ◌≡◌ {A = ℕ} 0 1 = cc in absurd (omega arith)
  none_told too_many e = let z : ◌≡◌ {A = ℕ} 0 1 = cc in absurd (omega arith)
  none_told unaccounted e = refl

  pub judged_many : judged w f n v l ≡ many_pointed → 3 ≤ length l
  unfolding judged
  judged_many e = errors_many w f n (parity_syndrome w v) (check_syndrome w f v) l (many_told _ e)

  pub judged_none : judged w f n v l ≡ no_group → length l ≤ 1
  unfolding judged
  judged_none e = errors_none w f n (parity_syndrome w v) (check_syndrome w f v) l (none_told _ e)

  pub many_judged : 3 ≤ length l → judged w f n v l ≡ many_pointed
  unfolding judged without
  many_judged h = ap (without w v) (errors_too_many w f n (parity_syndrome w v) (check_syndrome w f v) l h)

  -- two pointed tracks always have one
  pub judged_two : length l ≡ 2 → (u : List ℕ) × (judged w f n v l ≡ corrected u)
  unfolding judged without two_errors
  judged_two e = (_, ap (without w v) (errors_two w f n (parity_syndrome w v) (check_syndrome w f v) l e).2)

-- ---- nine tracks

module _ (v : ℕ → ℕ) (bounds : (k : ℕ) → k ≤ 8 → v k < 2 ^ 8) (pointers : ℕ) where
  pub nine_sound : (u : List ℕ) → judged 8 feedback exponent v (pointed_tracks 9 pointers) ≡ corrected u
      → (length u ≡ 9) × IsGroup 8 feedback (λ k. get_or u k 0) × Allowed 9 pointers v (λ k. get_or u k 0)
  nine_sound = sound 8 feedback exponent nine_tracks exponent_of_T refl (omega arith) v bounds pointers

  pub nine_complete : (g : ℕ → ℕ) → IsGroup 8 feedback g → Allowed 9 pointers v g
      → judged 8 feedback exponent v (pointed_tracks 9 pointers) ≡ corrected (tabulate 9 g)
  nine_complete = complete 8 feedback exponent nine_tracks exponent_of_T refl (omega arith) v bounds pointers

  pub nine_anywhere : length (pointed_tracks 9 pointers) ≡ 1 → (u : List ℕ)
      → judged 8 feedback exponent v (pointed_tracks 9 pointers) ≡ corrected u → judged 8 feedback exponent v (pointed_tracks 9 0) ≡ corrected u
  nine_anywhere = corrected_anywhere 8 feedback exponent nine_tracks exponent_of_T refl (omega arith) v bounds pointers

module _ (v : ℕ → ℕ) (pointers : ℕ) where
  pub nine_many : judged 8 feedback exponent v (pointed_tracks 9 pointers) ≡ many_pointed → 3 ≤ length (pointed_tracks 9 pointers)
  nine_many = judged_many 8 feedback exponent v (pointed_tracks 9 pointers)

  pub nine_none : judged 8 feedback exponent v (pointed_tracks 9 pointers) ≡ no_group → length (pointed_tracks 9 pointers) ≤ 1
  nine_none = judged_none 8 feedback exponent v (pointed_tracks 9 pointers)

  pub many_nine : 3 ≤ length (pointed_tracks 9 pointers) → judged 8 feedback exponent v (pointed_tracks 9 pointers) ≡ many_pointed
  many_nine = many_judged 8 feedback exponent v (pointed_tracks 9 pointers)
