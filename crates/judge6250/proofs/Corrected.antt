-- A packed group with an error taken off each of two tracks: its values, and the map of the tracks that it changes.
-- Assumes nothing.
use mathlib.Core.Path.{◌≡◌, refl, sym, ap, ap₂, ◌∙◌}
use mathlib.Core.Bool.{Bool, true, false, cond}
use mathlib.Core.List.{List, [], ◌∷◌, ◌++◌}
use mathlib.Core.Logic.{◌⊎◌, inl, inr}
use Prim.Native.Nat.{ℕ, ◌+◌, ◌*◌, ◌/◌, ◌%◌, ◌^◌, ◌<◌}
use native.Mathlib.Decide.{ℕ_discrete}
use native.Mathlib.Omega.{arith}
use borrow.Author.Tests.{eq-eqb, ne_eqb}
use lib.Bits.{xor_self, xor_zero_r, xor_shr, xor_mod}
use lib.Dec.{eqb}
use lib.ListN.{get_or}
use lib.Pow.{pow-lt}
use Rattle.indexed.specs.List.{tabulate, tabulate_from, first_where, below, keep}
use Rattle.indexed.proofs.Tabulate.{get_d_tabulate, tabulate_same, tabulate_last}
use Rattle.indexed.proofs.Test.{equal, equal₂, equal₃}
use Rattle.register.specs.Bit.{bit, of_bits}
use Rattle.register.specs.Shift.{shift, shifts}
use Rattle.register.specs.Xor.{◌⊕◌}
use Rattle.register.proofs.Xor.{xor_cancel}
use Rattle.judge6250.specs.Told.{mark_at}
use Rattle.rectangular.specs.Constants.{feedback, exponent}
use Rattle.rectangular.specs.Correction.{pointed_tracks, error_at, corrected, without, judged, changed_map}
use Rattle.rectangular.specs.Syndrome.{parity_syndrome, check_syndrome, weighed, first_accounting, one_error, errors_of}
use Rattle.group6250.specs.Packed.{byte_at, values_of, placed_at}
use Rattle.group6250.specs.declared.group.Group.{Group}
use Rattle.group6250.proofs.Packed.{value_low, value_parity}
use Rattle.rectangular.proofs.Syndrome.{error_here, error_elsewhere, no_error, untouched}

-- ---- where an error stands: tests of every track and error

-- the shift loses no bit
pub mark_fits : (t : ℕ) → t < 9 → 1 * 2 ^ t % 65536 ≡ 2 ^ t
mark_fits = equal 9 (λ t. 1 * 2 ^ t % 65536) (λ t. 2 ^ t) tt

placed_byte : (t e k : ℕ) → t < 9 → e < 256 → k < 8 → byte_at k (placed_at t e) ≡ error_at t e k
unfolding byte_at placed_at error_at
placed_byte = equal₃ 9 256 8 (λ t e k. byte_at k (placed_at t e)) (λ t e k. error_at t e k) tt

pub mark_lt : (t e : ℕ) → t < 9 → mark_at t e < 512
unfolding mark_at
mark_lt t e h = by (eqb e 0)
  where
    by : (b : Bool) → cond b 0 (2 ^ t) < 512
    by true = omega arith
    by false = pow-lt {j = 9} h

-- ---- the values

byte_xor : (k a b : ℕ) → byte_at k (a ⊕ b) ≡ byte_at k a ⊕ byte_at k b
unfolding byte_at
byte_xor k a b =
    ap (λ (x : ℕ). x % 256) (xor_shr a b (8 * k)) ∙ xor_mod (a / 2 ^ (8 * k)) (b / 2 ^ (8 * k)) 8

-- the parity track, by whether the error is in it
pub parity_here : (p q t e : ℕ) → t ≡ 8 → q ≡ p ⊕ e → q ≡ p ⊕ error_at t e 8
parity_here p q t e is eq = eq ∙ ap (λ (x : ℕ). p ⊕ x) (sym (ap (λ (k : ℕ). error_at k e 8) is ∙ error_here 8 e))

pub parity_elsewhere : (p q t e : ℕ) → (t ≡ 8 → ⊥) → q ≡ p → q ≡ p ⊕ error_at t e 8
parity_elsewhere p q t e ne eq = eq ∙ sym (untouched p t e 8 (λ is. ne (sym is)))

module _ (g : Group) (i a j b : ℕ) (hi : i < 9) (ha : a < 256) (hj : j < 9) (hb : b < 256) where
  abbrev right : ℕ → ℕ
  right k = get_or (values_of g) k 0 ⊕ error_at i a k ⊕ error_at j b k

  pub corrected_values : (p : ℕ) → p ≡ g.parity ⊕ error_at i a 8 ⊕ error_at j b 8
      → values_of (record { tracks = g.tracks ⊕ placed_at i a ⊕ placed_at j b; parity = p }) ≡ tabulate 9 right
  unfolding values_of
  corrected_values p e =
      ap₂ (λ (l : List ℕ) (q : ℕ). l ++ (q ∷ []))
      (tabulate_same 8 _ right
      (λ k h. byte_xor k (g.tracks ⊕ placed_at i a) (placed_at j b)
      ∙ ap₂ ◌⊕◌ (byte_xor k g.tracks (placed_at i a) ∙ ap₂ ◌⊕◌ (sym (value_low g k h)) (placed_byte i a k hi ha h)) (placed_byte j b k hj hb h)))
      (e ∙ ap (λ (x : ℕ). x ⊕ error_at i a 8 ⊕ error_at j b 8) (sym (value_parity g)))
      ∙ sym (tabulate_last 8 right)

-- ---- the tracks that differ

-- 1 if an error is one, else 0
abbrev some : ℕ → ℕ
some e = cond (eqb e 0) 0 1

some_zero : (v : ℕ) → ◌≡◌ {A = ℕ} (cond (eqb v v) 0 1) 0
some_zero v = ap (λ (t : Bool). cond t 0 1) (eq-eqb v v refl)

-- a value and an error added to it
differs_one : (v x : ℕ) → cond (eqb v (v ⊕ x)) 0 1 ≡ some x
differs_one v x = by (ℕ_discrete x 0)
  where
    by : Dec (x ≡ 0) → cond (eqb v (v ⊕ x)) 0 1 ≡ some x
    by (yes z) =
        ap (λ (y : ℕ). cond (eqb v y) 0 1) (ap (λ (y : ℕ). v ⊕ y) z ∙ xor_zero_r v)
        ∙ some_zero v
        ∙ sym (ap (λ (t : Bool). cond t 0 1) (eq-eqb x 0 z))
    by (no ne) =
        ap (λ (t : Bool). cond t 0 1) (ne_eqb v (v ⊕ x) (λ e. ne (sym (xor_cancel v x) ∙ ap (λ (y : ℕ). v ⊕ y) (sym e) ∙ xor_self v)))
        ∙ sym (ap (λ (t : Bool). cond t 0 1) (ne_eqb x 0 ne))

-- two errors, of which one is none
differs : (v x y : ℕ) → (x ≡ 0) ⊎ (y ≡ 0) → cond (eqb v (v ⊕ x ⊕ y)) 0 1 ≡ some x + some y
differs v x y (inl z) =
    ap (λ (u : ℕ). cond (eqb v (u ⊕ y)) 0 1) (ap (λ (u : ℕ). v ⊕ u) z ∙ xor_zero_r v)
    ∙ differs_one v y
    ∙ rw z (omega arith)
differs v x y (inr z) =
    ap (λ (u : ℕ). cond (eqb v u) 0 1) (ap (λ (u : ℕ). v ⊕ x ⊕ u) z ∙ xor_zero_r (v ⊕ x))
    ∙ differs_one v x
    ∙ rw z (omega arith)

some_picked : (t : Bool) (e : ℕ) → some (cond t e 0) ≡ cond t (some e) 0
some_picked true e = refl
some_picked false e = refl

-- a map of two tracks: a test of every two
marked : (x y : Bool) (i j : ℕ) → i < 9 → j < 9
    → of_bits (tabulate 9 (λ k. cond (eqb k i) (cond x 0 1) 0 + cond (eqb k j) (cond y 0 1) 0)) ≡ cond x 0 (2 ^ i) + cond y 0 (2 ^ j)
unfolding of_bits tabulate tabulate_from
marked true true =
    equal₂ 9 9 (λ i j. of_bits (tabulate 9 (λ k. cond (eqb k i) 0 0 + cond (eqb k j) 0 0))) (λ i j. 0) tt
marked true false =
    equal₂ 9 9 (λ i j. of_bits (tabulate 9 (λ k. cond (eqb k i) 0 0 + cond (eqb k j) 1 0))) (λ i j. 0 + 2 ^ j) tt
marked false true =
    equal₂ 9 9 (λ i j. of_bits (tabulate 9 (λ k. cond (eqb k i) 1 0 + cond (eqb k j) 0 0))) (λ i j. 2 ^ i + 0) tt
marked false false =
    equal₂ 9 9 (λ i j. of_bits (tabulate 9 (λ k. cond (eqb k i) 1 0 + cond (eqb k j) 1 0))) (λ i j. 2 ^ i + 2 ^ j) tt

module _ (v : ℕ → ℕ) (i a j b : ℕ) (hi : i < 9) (hj : j < 9) (apart : (i < j) ⊎ (b ≡ 0)) where
  one_none : (k : ℕ) → (error_at i a k ≡ 0) ⊎ (error_at j b k ≡ 0)
  one_none k = by apart (ℕ_discrete k i)
    where
      by : (i < j) ⊎ (b ≡ 0) → Dec (k ≡ i) → (error_at i a k ≡ 0) ⊎ (error_at j b k ≡ 0)
      by (inl before) (yes e) = inr (error_elsewhere j b k (λ f. omega arith))
      by (inl before) (no ne) = inl (error_elsewhere i a k ne)
      by (inr z) d = inr (ap (λ (e : ℕ). error_at j e k) z ∙ no_error j k)

  pub changed_marks : (right : List ℕ) → right ≡ tabulate 9 (λ k. v k ⊕ error_at i a k ⊕ error_at j b k)
      → (read : List ℕ) → ((k : ℕ) → get_or read k 0 ≡ v k)
      → mark_at i a + mark_at j b ≡ changed_map 9 read right
  unfolding changed_map mark_at error_at
  changed_marks right is read was =
      sym (ap of_bits
      (tabulate_same 9 _ _
      (λ k h. ap₂ (λ (x y : ℕ). cond (eqb x y) 0 1) (was k)
      (ap (λ (l : List ℕ). get_or l k 0) is ∙ get_d_tabulate 9 (λ k. v k ⊕ error_at i a k ⊕ error_at j b k) k 0 h)
      ∙ differs (v k) (error_at i a k) (error_at j b k) (one_none k)
      ∙ ap₂ ◌+◌ (some_picked (eqb k i) a) (some_picked (eqb k j) b)))
      ∙ marked (eqb a 0) (eqb b 0) i j hi hj)

-- ---- a group without error

-- with no error and no track pointed, the group that fits is the one that was read
pub clean_judged : (v : ℕ → ℕ) → parity_syndrome 8 v ≡ 0 → check_syndrome 8 feedback v ≡ 0
    → judged 8 feedback exponent v (pointed_tracks 9 0) ≡ corrected (tabulate 9 v)
unfolding judged without errors_of one_error first_accounting weighed shifts shift first_where pointed_tracks keep below tabulate tabulate_from bit
clean_judged v e1 e2 =
    ap₂ (λ (s1 s2 : ℕ). without 8 v (errors_of 8 feedback exponent s1 s2 (pointed_tracks 9 0))) e1 e2
    ∙ ap corrected (tabulate_same 9 _ v
    (λ k h. ap₂ (λ (x y : ℕ). v k ⊕ x ⊕ y) (no_error 0 k) (no_error 8 k) ∙ xor_zero_r (v k ⊕ 0) ∙ xor_zero_r (v k)))

pub unchanged : (l : List ℕ) → changed_map 9 l l ≡ 0
unfolding changed_map of_bits tabulate tabulate_from
unchanged l = ap of_bits (tabulate_same 9 _ (λ k. 0) (λ k h. some_zero (get_or l k 0)))
