-- What `errors_of` tells: errors that account for both syndromes, in tracks that may differ, or that there are none such.
-- Assumes nothing.
use mathlib.Core.Path.{◌≡◌, refl, sym, ap, ap₂, ◌∙◌}
use mathlib.Core.Bool.{Bool, true, false, cond}
use mathlib.Core.List.{List, [], ◌∷◌}
use mathlib.Core.Logic.{◌⊎◌, inl, inr}
use Prim.Native.Nat.{ℕ, suc, ◌*◌, ◌+◌, ◌/◌, ◌^◌, ◌<◌, ◌≤◌}
use native.Mathlib.Omega.{arith}
use borrow.Author.Tests.{lt-ltb, ltb-true, eqb-true, eq-eqb, ne_eqb}
use lib.Bits.{xor_lt, xor_self, xor_zero_r}
use lib.Dec.{eqb, ltb}
use lib.ListN.{length, get_or}
use lib.Pow.{pow_pos}
use Rattle.indexed.specs.List.{below, first_below}
use Rattle.indexed.proofs.Below.{first_below_at}
use Rattle.indexed.proofs.Tabulate.{length_tabulate, get_d_tabulate}
use Rattle.indexed.proofs.First.{first_passes, first_found}
use Rattle.register.specs.Exponent.{Exponent}
use Rattle.register.specs.Xor.{◌⊕◌}
use Rattle.register.proofs.Xor.{xor_assoc}
use Rattle.rectangular.specs.Syndrome.{weighed, second_error, errors_in, too_many, unaccounted, first_accounting, one_error, two_errors, errors_of}
use Rattle.rectangular.specs.Correction.{pointed_tracks}
use Rattle.rectangular.specs.Group.{Suits}
use Rattle.rectangular.proofs.Distance.{weighed_apart}
use Rattle.rectangular.proofs.Pointed.{pointed_lt, pointed_ascends}
use Rattle.rectangular.proofs.Syndrome.{weighed_parity, second_lt, second_accounts}

-- every track
pub below_within : (w t : ℕ) → t < length (below (suc w)) → get_or (below (suc w)) t 0 ≤ w
unfolding below
below_within w t h =
    let b : t < suc w = omega (arith, length_tabulate (suc w) (λ k. k)) in
    omega (arith, get_d_tabulate (suc w) (λ k. k) t 0 b)

-- an error a in track i and b in track j account for the syndromes
pub record Accounts (w f s1 s2 i a j b : ℕ) : Type 0 where
  pub first : i ≤ w
  pub second : j ≤ w
  pub small : a < 2 ^ w
  pub other_small : b < 2 ^ w
  pub parity : a ⊕ b ≡ s1
  pub check : weighed w f i a ⊕ weighed w f j b ≡ s2

module _ (w f s1 s2 : ℕ) where
  -- one error, in the track at index t
  pub record OneFound (tracks : List ℕ) (t : ℕ) : Type 0 where
    pub within : t < length tracks
    pub is_told : one_error w f s1 s2 tracks ≡ errors_in (get_or tracks t 0) s1 w 0
    pub accounts : Accounts w f s1 s2 (get_or tracks t 0) s1 w 0

  module _ (small : s1 < 2 ^ w) (tracks : List ℕ) (within : (t : ℕ) → t < length tracks → get_or tracks t 0 ≤ w) where
    pub one_error_lem : ((t : ℕ) × OneFound tracks t) ⊎ (one_error w f s1 s2 tracks ≡ unaccounted)
    unfolding one_error first_accounting
    one_error_lem = by (ltb (first_accounting w f s1 s2 tracks) (length tracks)) refl
      where
        by : (b : Bool) → ltb (first_accounting w f s1 s2 tracks) (length tracks) ≡ b
            → ((t : ℕ) × OneFound tracks t) ⊎ (one_error w f s1 s2 tracks ≡ unaccounted)
        by true q =
            let h = ltb-true (first_accounting w f s1 s2 tracks) (length tracks) q in
            let passes : weighed w f (get_or tracks (first_accounting w f s1 s2 tracks) 0) s1 ≡ s2 =
            eqb-true _ _ (first_passes (λ k. eqb (weighed w f k s1) s2) tracks h) in
            inl (
              first_accounting w f s1 s2 tracks,
              record {
                within = h;
                is_told = ap (λ (b : Bool). cond b (errors_in (get_or tracks (first_accounting w f s1 s2 tracks) 0) s1 w 0) unaccounted) q;
                accounts = record {
                  first = within (first_accounting w f s1 s2 tracks) h;
                  second = omega arith;
                  small = small;
                  other_small = pow_pos w;
                  parity = xor_zero_r s1;
                  check = ap₂ ◌⊕◌ passes (weighed_parity w f w 0 (omega arith)) ∙ xor_zero_r s2;
                };
              },
            )
        by false q = inr (ap (λ (b : Bool). cond b (errors_in (get_or tracks (first_accounting w f s1 s2 tracks) 0) s1 w 0) unaccounted) q)

    -- an error S1 that accounts for S2 is found
    pub one_found : (t : ℕ) → t < length tracks → weighed w f (get_or tracks t 0) s1 ≡ s2 → one_error w f s1 s2 tracks ≡ unaccounted → ⊥
    unfolding one_error first_accounting
    one_found t h e q =
        let found = lt-ltb _ _ (first_found (λ k. eqb (weighed w f k s1) s2) tracks t h (eq-eqb _ _ e)) in
        let told = ap (λ (b : Bool). cond b (errors_in (get_or tracks (first_accounting w f s1 s2 tracks) 0) s1 w 0) unaccounted) found in
        let z : ◌≡◌ {A = ℕ} 0 1 = cc in
        omega arith

  -- a track in which it accounts is the first in which it does, since no two tracks weigh it alike
  pub first_accounting_lem : Suits w f → s1 < 2 ^ w → (s1 ≡ 0 → ⊥) → (k : ℕ) → k ≤ w → weighed w f k s1 ≡ s2
      → first_accounting w f s1 s2 (below (suc w)) ≡ k
  unfolding first_accounting first_below
  first_accounting_lem s small some k h is =
      first_below_at (suc w) (λ j. eqb (weighed w f j s1) s2) k (omega arith)
      (λ j b. ne_eqb _ _ (λ e. some (weighed_apart w f s j k b h s1 small (e ∙ sym is)))) (eq-eqb _ _ is)

  -- two errors, in two tracks
  pub two_errors_lem : (n : ℕ) → Suits w f → Exponent w f n → n ≡ 2 * (n / 2) + 1 → w ≤ n → (i j : ℕ) → i < j → j ≤ w → s1 < 2 ^ w → s2 < 2 ^ w
      → Accounts w f s1 s2 i (s1 ⊕ second_error w f n i j s1 s2) j (second_error w f n i j s1 s2)
  two_errors_lem n s x odd wide i j before within s1-lt s2-lt =
      let other = second_error w f n i j s1 s2 in
      let small = second_lt w f n s x odd wide i j before within s1 s2 s1-lt s2-lt in
      record {
        first = omega arith;
        second = within;
        small = xor_lt w s1 other s1-lt small;
        other_small = small;
        parity = xor_assoc s1 other other ∙ ap (λ (y : ℕ). s1 ⊕ y) (xor_self other) ∙ xor_zero_r s1;
        check = second_accounts w f n s x odd wide i j before within s1 s2 s1-lt s2-lt;
      }

-- which it is, by how many tracks are pointed
module _ (w f n s1 s2 : ℕ) where
  one_not_many : (tracks : List ℕ) → one_error w f s1 s2 tracks ≡ too_many → ⊥
  unfolding one_error
  one_not_many tracks = by (ltb (first_accounting w f s1 s2 tracks) (length tracks))
    where
      by : (b : Bool) → cond b (errors_in (get_or tracks (first_accounting w f s1 s2 tracks) 0) s1 w 0) unaccounted ≡ too_many → ⊥
      by true e = let z : ◌≡◌ {A = ℕ} 0 1 = cc in omega arith
      by false e = let z : ◌≡◌ {A = ℕ} 0 1 = cc in omega arith

  pub errors_many : (l : List ℕ) → errors_of w f n s1 s2 l ≡ too_many → 3 ≤ length l
  unfolding errors_of two_errors
  errors_many [] e = absurd (one_not_many (below (suc w)) e)
  errors_many (i ∷ []) e = absurd (one_not_many (i ∷ []) e)
  errors_many (i ∷ j ∷ []) e = let z : ◌≡◌ {A = ℕ} 0 1 = cc in absurd (omega arith)
  errors_many (i ∷ j ∷ k ∷ more) e = omega arith

  pub errors_too_many : (l : List ℕ) → 3 ≤ length l → errors_of w f n s1 s2 l ≡ too_many
  unfolding errors_of
  errors_too_many [] h = absurd (omega arith)
  errors_too_many (i ∷ []) h = absurd (omega arith)
  errors_too_many (i ∷ j ∷ []) h = absurd (omega arith)
  errors_too_many (i ∷ j ∷ k ∷ more) h = refl

  pub errors_none : (l : List ℕ) → errors_of w f n s1 s2 l ≡ unaccounted → length l ≤ 1
  unfolding errors_of two_errors
  errors_none [] e = omega arith
  errors_none (i ∷ []) e = omega arith
  errors_none (i ∷ j ∷ []) e = let z : ◌≡◌ {A = ℕ} 0 1 = cc in absurd (omega arith)
  errors_none (i ∷ j ∷ k ∷ more) e = let z : ◌≡◌ {A = ℕ} 0 1 = cc in absurd (omega arith)

  pub errors_two : (l : List ℕ) → length l ≡ 2 → (i : ℕ) × (j : ℕ) × (errors_of w f n s1 s2 l ≡ two_errors w f n s1 s2 i j)
  unfolding errors_of
  errors_two [] e = absurd (omega arith)
  errors_two (i ∷ []) e = absurd (omega arith)
  errors_two (i ∷ j ∷ []) e = (i, j, refl)
  errors_two (i ∷ j ∷ k ∷ more) e = absurd (omega arith)

-- the tracks of two errors are within the group, and the second is behind the first or has none
pub record Apart (w i j b : ℕ) : Type 0 where
  pub first : i ≤ w
  pub second : j ≤ w
  pub apart : (i < j) ⊎ (b ≡ 0)

module _ (w f n s1 s2 pointers i a j b : ℕ) where
  one_apart : (tracks : List ℕ) → ((t : ℕ) → t < length tracks → get_or tracks t 0 ≤ w) → one_error w f s1 s2 tracks ≡ errors_in i a j b → Apart w i j b
  unfolding one_error
  one_apart tracks within = by (ltb (first_accounting w f s1 s2 tracks) (length tracks)) refl
    where
      by : (q : Bool) → ltb (first_accounting w f s1 s2 tracks) (length tracks) ≡ q
          → cond q (errors_in (get_or tracks (first_accounting w f s1 s2 tracks) 0) s1 w 0) unaccounted ≡ errors_in i a j b → Apart w i j b
      by true q e =
          let first : get_or tracks (first_accounting w f s1 s2 tracks) 0 ≡ i = cc in
          let second : w ≡ j = cc in
          let none : 0 ≡ b = cc in
          record {
            first = rw (← first) (within (first_accounting w f s1 s2 tracks) (ltb-true _ _ q));
            second = omega arith;
            apart = inr (sym none);
          }
      by false q e = let z : ◌≡◌ {A = ℕ} 0 1 = cc in absurd (omega arith)

  pub errors_apart : errors_of w f n s1 s2 (pointed_tracks (suc w) pointers) ≡ errors_in i a j b → Apart w i j b
  unfolding errors_of two_errors
  errors_apart = by (pointed_tracks (suc w) pointers) refl
    where
      by : (l : List ℕ) → pointed_tracks (suc w) pointers ≡ l → errors_of w f n s1 s2 l ≡ errors_in i a j b → Apart w i j b
      by [] q e = one_apart (below (suc w)) (below_within w) e
      by (k ∷ []) q e = one_apart (k ∷ []) (λ t h. omega (arith, pointed_lt (suc w) pointers (k ∷ []) q t h)) e
      by (k ∷ m ∷ []) q e =
          let first : k ≡ i = cc in
          let second : m ≡ j = cc in
          let before : k < m = pointed_ascends (suc w) pointers (k ∷ m ∷ []) q 0 1 (omega arith) (omega arith) in
          let within : m < suc w = pointed_lt (suc w) pointers (k ∷ m ∷ []) q 1 (omega arith) in
          record { first = omega arith; second = omega arith; apart = inl (omega arith) }
      by (k ∷ m ∷ x ∷ more) q e = let z : ◌≡◌ {A = ℕ} 0 1 = cc in absurd (omega arith)
