-- The errors as the code finds them: by a track that was searched for, and by counts of the map's bits.
-- Assumes nothing.
use mathlib.Core.Path.{◌≡◌, refl, sym, ap, ap₂, ◌∙◌}
use mathlib.Core.Bool.{Bool, true, false, cond}
use mathlib.Core.List.{List, [], ◌∷◌}
use Rattle.std.specs.Prelude.{Option, Some, None}
use Prim.Native.Nat.{ℕ, ◌-◌, ◌<◌, ◌≤◌}
use native.Mathlib.Nat.{suc-ne-zero, suc_inj}
use native.Mathlib.Omega.{arith}
use borrow.Author.Tests.{lt-ltb, le-ltb, ltb-true, ltb-false, eq-eqb, ne_eqb}
use lib.Bits.{bit_and}
use lib.Count.{ones, ones_in, count_trailing_zeros}
use lib.Dec.{eqb, ltb}
use lib.ListN.{length, get_or}
use Rattle.indexed.specs.List.{tabulate, tabulate_from, first_where, below, keep, index_in}
use Rattle.indexed.proofs.Below.{length_below, get_or_below}
use Rattle.indexed.proofs.Test.{equal}
use Rattle.register.specs.Bit.{bit}
use Rattle.rectangular.specs.Constants.{feedback, exponent}
use Rattle.rectangular.specs.Correction.{pointed_tracks}
use Rattle.rectangular.specs.Syndrome.{weighed, Errors, errors_in, too_many, unaccounted, first_accounting, one_error, errors_of}
use Rattle.rectangular.proofs.Errors.{errors_too_many}
use Rattle.judge6250.specs.Told.{told_located}

-- ---- one error, by the index at which it was searched for

-- the search through one track, by what its test gave
pub first_of_one : (s1 s2 k : ℕ) (b : Bool) → eqb (weighed 8 feedback k s1) s2 ≡ b → first_accounting 8 feedback s1 s2 (k ∷ []) ≡ cond b 0 1
unfolding first_accounting first_where
first_of_one s1 s2 k b e = ap (λ (b : Bool). cond b 0 1) e

module _ (s1 s2 : ℕ) (tracks : List ℕ) (t : ℕ) (found : first_accounting 8 feedback s1 s2 tracks ≡ t) where
  abbrev by_index : ℕ → Errors
  by_index i = cond (ltb i (length tracks)) (errors_in (get_or tracks i 0) s1 8 0) unaccounted

  pub one_is : t < length tracks → (k : ℕ) → get_or tracks t 0 ≡ k → (e : Errors) → e ≡ errors_in k s1 8 0 → e ≡ one_error 8 feedback s1 s2 tracks
  unfolding one_error
  one_is h k at e is =
      is
      ∙ sym (ap by_index found
      ∙ ap (λ (b : Bool). cond b (errors_in (get_or tracks t 0) s1 8 0) unaccounted) (lt-ltb t (length tracks) h)
      ∙ ap (λ (i : ℕ). errors_in i s1 8 0) at)

  pub one_none : length tracks ≤ t → unaccounted ≡ one_error 8 feedback s1 s2 tracks
  unfolding one_error
  one_none h =
      sym (ap by_index found ∙ ap (λ (b : Bool). cond b (errors_in (get_or tracks t 0) s1 8 0) unaccounted) (le-ltb t (length tracks) h))

-- one error anywhere, by the track that was searched for
abbrev anywhere : ℕ → ℕ → ℕ
anywhere s1 s2 = first_accounting 8 feedback s1 s2 (below 9)

pub one_anywhere : (s1 s2 : ℕ) (t : Option ℕ) → t ≡ index_in 9 (first_accounting 8 feedback s1 s2 (below 9))
    → told_located t s1 ≡ one_error 8 feedback s1 s2 (below 9)
one_anywhere s1 s2 t found =
    ap (λ (o : Option ℕ). told_located o s1) found ∙ by (ltb (anywhere s1 s2) 9) refl
  where
    by : (b : Bool) → ltb (anywhere s1 s2) 9 ≡ b → told_located (cond b (Some (anywhere s1 s2)) None) s1 ≡ one_error 8 feedback s1 s2 (below 9)
    by true e =
        let h = ltb-true (anywhere s1 s2) 9 e in
        one_is s1 s2 (below 9) (anywhere s1 s2) refl (omega (arith, length_below 9)) (anywhere s1 s2) (get_or_below 9 (anywhere s1 s2) 0 h) _ refl
    by false e =
        let h = ltb-false (anywhere s1 s2) 9 e in
        one_none s1 s2 (below 9) (anywhere s1 s2) refl (omega (arith, length_below 9))

-- ---- the map of pointed tracks: tests of every map

pub pointed_count : (m : ℕ) → m < 512 → length (pointed_tracks 9 m) ≡ ones m
unfolding pointed_tracks keep below tabulate tabulate_from bit ones ones_in
pointed_count = equal 512 (λ m. length (pointed_tracks 9 m)) ones tt

pointed_first : (m : ℕ) → m < 512 → get_or (pointed_tracks 9 m) 0 16 ≡ count_trailing_zeros 16 m
unfolding pointed_tracks keep below tabulate tabulate_from bit count_trailing_zeros
pointed_first = equal 512 (λ m. get_or (pointed_tracks 9 m) 0 16) (count_trailing_zeros 16) tt

pointed_second : (m : ℕ) → m < 512 → get_or (pointed_tracks 9 m) 1 16 ≡ count_trailing_zeros 16 (bit_and m (m - 1))
unfolding pointed_tracks keep below tabulate tabulate_from bit count_trailing_zeros
pointed_second = equal 512 (λ m. get_or (pointed_tracks 9 m) 1 16) (λ m. count_trailing_zeros 16 (bit_and m (m - 1))) tt

-- a list of one element, and of two
list_of_one : (l : List ℕ) → length l ≡ 1 → l ≡ get_or l 0 16 ∷ []
list_of_one [] e = absurd (suc-ne-zero _ (sym e))
list_of_one (x ∷ []) e = refl
list_of_one (x ∷ y ∷ l) e = absurd (suc-ne-zero _ (suc_inj e))

list_of_two : (l : List ℕ) → length l ≡ 2 → l ≡ get_or l 0 16 ∷ get_or l 1 16 ∷ []
list_of_two [] e = absurd (suc-ne-zero _ (sym e))
list_of_two (x ∷ []) e = absurd (suc-ne-zero _ (sym (suc_inj e)))
list_of_two (x ∷ y ∷ []) e = refl
list_of_two (x ∷ y ∷ z ∷ l) e = absurd (suc-ne-zero _ (suc_inj (suc_inj e)))

-- what is left of a map without its lowest one, and how many are pointed as that tells: 3 for three or more. A test of every map.
abbrev others : ℕ → ℕ
others m = bit_and m (m - 1)

abbrev told : ℕ → ℕ
told m = cond (eqb m 0) 0 (cond (eqb (others m) 0) 1 (cond (eqb (others (others m)) 0) 2 3))

counted : (m : ℕ) → m < 512 → cond (ltb 3 (ones m)) 3 (ones m) ≡ told m
unfolding ones ones_in
counted = equal 512 (λ m. cond (ltb 3 (ones m)) 3 (ones m)) told tt

few : (n k : ℕ) → k < 3 → cond (ltb 3 n) 3 n ≡ k → n ≡ k
few n k h e = by (ltb 3 n) e
  where
    by : (b : Bool) → cond b 3 n ≡ k → n ≡ k
    by true e = absurd (omega arith)
    by false e = e

module _ (m : ℕ) (h : m < 512) (some : m ≡ 0 → ⊥) where
  pub counts_one : others m ≡ 0 → ones m ≡ 1
  counts_one e = few (ones m) 1 (omega arith) (counted m h ∙ simp (ne_eqb m 0 some, eq-eqb (others m) 0 e))

  module _ (more : others m ≡ 0 → ⊥) where
    pub counts_two : others (others m) ≡ 0 → ones m ≡ 2
    counts_two e =
        few (ones m) 2 (omega arith) (counted m h ∙ simp (ne_eqb m 0 some, ne_eqb (others m) 0 more, eq-eqb (others (others m)) 0 e))

    pub counts_many : (others (others m) ≡ 0 → ⊥) → (k : ℕ) → k < 3 → ones m ≡ k → ⊥
    counts_many ne k b e = by (ones m) e (counted m h ∙ simp (ne_eqb m 0 some, ne_eqb (others m) 0 more, ne_eqb (others (others m)) 0 ne))
      where
        by : (n : ℕ) → n ≡ k → cond (ltb 3 n) 3 n ≡ 3 → ⊥
        by n q t = let small : n < 3 = omega arith in
            absurd (let same : n ≡ 3 = sym (ap (λ (b : Bool). cond b 3 n) (le-ltb 3 n (omega arith))) ∙ t in omega arith)

module _ (m : ℕ) (h : m < 512) where
  pub one_pointed : ones m ≡ 1 → pointed_tracks 9 m ≡ count_trailing_zeros 16 m ∷ []
  one_pointed e =
      list_of_one (pointed_tracks 9 m) (pointed_count m h ∙ e) ∙ ap (λ (i : ℕ). i ∷ []) (pointed_first m h)

  pub two_pointed : ones m ≡ 2 → pointed_tracks 9 m ≡ count_trailing_zeros 16 m ∷ count_trailing_zeros 16 (bit_and m (m - 1)) ∷ []
  two_pointed e =
      list_of_two (pointed_tracks 9 m) (pointed_count m h ∙ e) ∙ ap₂ (λ (i j : ℕ). i ∷ j ∷ []) (pointed_first m h) (pointed_second m h)

-- a map of no ones is 0
none_counted : (m : ℕ) → m < 512 → cond (eqb (ones m) 0) m 0 ≡ 0
unfolding ones ones_in
none_counted = equal 512 (λ m. cond (eqb (ones m) 0) m 0) (λ m. 0) tt

pub many_pointed_lem : (s1 s2 m : ℕ) → m < 512 → (m ≡ 0 → ⊥) → (ones m ≡ 1 → ⊥) → (ones m ≡ 2 → ⊥)
    → too_many ≡ errors_of 8 feedback exponent s1 s2 (pointed_tracks 9 m)
many_pointed_lem s1 s2 m h some b d =
    let none : ones m ≡ 0 → ⊥ = λ e. some (sym (ap (λ (t : Bool). cond t m 0) (eq-eqb (ones m) 0 e)) ∙ none_counted m h) in
    sym (errors_too_many 8 feedback exponent s1 s2 (pointed_tracks 9 m) (omega (arith, pointed_count m h)))
