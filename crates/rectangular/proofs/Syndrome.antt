-- Over the width: what an error in one track leaves in the two syndromes, and that errors which leave what is found there, put
-- back, give a group (document 000, equations (13) to (21)).
-- Assumes nothing.
use mathlib.Core.Path.{◌≡◌, refl, sym, ap, ap₂, ◌∙◌}
use mathlib.Core.Bool.{Bool, true, false, cond}
use Prim.Native.Nat.{ℕ, suc, ◌+◌, ◌-◌, ◌*◌, ◌/◌, ◌^◌, ◌<◌, ◌≤◌}
use native.Mathlib.Decide.{ℕ_discrete, dec_lt}
use native.Mathlib.Omega.{arith}
use borrow.Author.Tests.{lt-ltb, le-ltb, eq-eqb, ne_eqb}
use lib.Bits.{xor_lt, xor_self, xor_zero_r}
use lib.Dec.{eqb}
use lib.Pow.{pow_pos}
use Rattle.indexed.proofs.Differ.{AgreeBut}
use Rattle.register.specs.Exponent.{Exponent}
use Rattle.register.specs.Shift.{shifts}
use Rattle.register.specs.Sum.{xor_sum}
use Rattle.register.specs.Xor.{◌⊕◌}
use Rattle.register.proofs.Exponent.{shifts_back}
use Rattle.register.proofs.Shift.{shifts_lt, shifts_xor, shifts_zero, shifts_add}
use Rattle.register.proofs.Sum.{sum_ext, sum_lt, sum_zero, sum_xor, sum_one}
use Rattle.register.proofs.Xor.{xor_assoc, xor_left_comm, xor_cancel}
use Rattle.rectangular.specs.Syndrome.{parity_syndrome, check_syndrome, weighed, erasure, second_error}
use Rattle.rectangular.specs.Correction.{error_at}
use Rattle.rectangular.specs.Group.{IsGroup, Suits}
use Rattle.rectangular.proofs.Erasure.{erasure_lt, erasure_inverts}

-- ---- an error in one track

pub error_here : (k e : ℕ) → error_at k e k ≡ e
unfolding error_at
error_here k e = ap (λ (b : Bool). cond b e 0) (eq-eqb k k refl)

pub error_elsewhere : (k e j : ℕ) → (j ≡ k → ⊥) → error_at k e j ≡ 0
unfolding error_at
error_elsewhere k e j ne = ap (λ (b : Bool). cond b e 0) (ne_eqb j k ne)

pub error_lt : (w k e j : ℕ) → e < 2 ^ w → error_at k e j < 2 ^ w
unfolding error_at
error_lt w k e j h = by (eqb j k)
  where
    by : (b : Bool) → cond b e 0 < 2 ^ w
    by true = h
    by false = pow_pos w

pub error_xor : (k a b j : ℕ) → error_at k (a ⊕ b) j ≡ error_at k a j ⊕ error_at k b j
unfolding error_at
error_xor k a b j = by (eqb j k)
  where
    by : (c : Bool) → cond c (a ⊕ b) 0 ≡ cond c a 0 ⊕ cond c b 0
    by true = refl
    by false = refl

pub no_error : (k j : ℕ) → error_at k 0 j ≡ 0
unfolding error_at
no_error k j = by (eqb j k)
  where
    by : (b : Bool) → ◌≡◌ {A = ℕ} (cond b 0 0) 0
    by true = refl
    by false = refl

-- it changes no other track
pub untouched : (a k e j : ℕ) → (j ≡ k → ⊥) → a ⊕ error_at k e j ≡ a
untouched a k e j ne = ap (λ (y : ℕ). a ⊕ y) (error_elsewhere k e j ne) ∙ xor_zero_r a

module _ (w f : ℕ) where
  pub weighed_low : (k e : ℕ) → k < w → weighed w f k e ≡ shifts w f k e
  unfolding weighed
  weighed_low k e h = ap (λ (b : Bool). cond b (shifts w f k e) 0) (lt-ltb k w h)

  pub weighed_parity : (k e : ℕ) → w ≤ k → weighed w f k e ≡ 0
  unfolding weighed
  weighed_parity k e h = ap (λ (b : Bool). cond b (shifts w f k e) 0) (le-ltb k w h)

  weights : (k e : ℕ) → xor_sum w (λ j. shifts w f j (error_at k e j)) ≡ weighed w f k e
  weights k e = by (dec_lt k w)
    where
      other : (j : ℕ) → (j ≡ k → ⊥) → shifts w f j (error_at k e j) ≡ 0
      other j ne = ap (shifts w f j) (error_elsewhere k e j ne) ∙ shifts_zero w f j

      by : Dec (k < w) → xor_sum w (λ j. shifts w f j (error_at k e j)) ≡ weighed w f k e
      by (yes h) =
          sum_one w (λ j. shifts w f j (error_at k e j)) k h (λ j b ne. other j ne)
          ∙ ap (shifts w f k) (error_here k e)
          ∙ sym (weighed_low k e h)
      by (no h) = sum_zero w _ (λ j b. other j (λ q. omega arith)) ∙ sym (weighed_parity k e (omega arith))

-- ---- the syndromes

module _ (w f : ℕ) (fits : f < 2 ^ w) (v : ℕ → ℕ) (bounds : (k : ℕ) → k ≤ w → v k < 2 ^ w) where
  pub parity_lt : parity_syndrome w v < 2 ^ w
  unfolding parity_syndrome
  parity_lt = sum_lt w (suc w) v (λ k h. bounds k (omega arith))

  pub check_lt : check_syndrome w f v < 2 ^ w
  unfolding check_syndrome
  check_lt = sum_lt w w _ (λ k h. shifts_lt w f k (v k) fits (bounds k (omega arith)))

  -- an error in track k
  module _ (k e : ℕ) (within : k ≤ w) (small : e < 2 ^ w) where
    pub error_bounds : (j : ℕ) → j ≤ w → v j ⊕ error_at k e j < 2 ^ w
    error_bounds j h = xor_lt w (v j) (error_at k e j) (bounds j h) (error_lt w k e j small)

    pub parity_error : parity_syndrome w (λ j. v j ⊕ error_at k e j) ≡ parity_syndrome w v ⊕ e
    unfolding parity_syndrome
    parity_error =
        sum_xor (suc w) v (error_at k e)
        ∙ ap (λ (y : ℕ). xor_sum (suc w) v ⊕ y)
        (sum_one (suc w) (error_at k e) k (omega arith) (λ j b ne. error_elsewhere k e j ne) ∙ error_here k e)

    pub check_error : check_syndrome w f (λ j. v j ⊕ error_at k e j) ≡ check_syndrome w f v ⊕ weighed w f k e
    unfolding check_syndrome
    check_error =
        sum_ext w _ (λ j. shifts w f j (v j) ⊕ shifts w f j (error_at k e j))
        (λ j b. shifts_xor w f j (v j) (error_at k e j) fits (bounds j (omega arith)) (error_lt w k e j small))
        ∙ sum_xor w (λ j. shifts w f j (v j)) (λ j. shifts w f j (error_at k e j))
        ∙ ap (λ (y : ℕ). xor_sum w (λ j. shifts w f j (v j)) ⊕ y) (weights w f k e)

-- ---- errors put back

-- their sum is S1, and they account for S2
pub corrects_two : (w f : ℕ) → f < 2 ^ w → (v : ℕ → ℕ) → ((k : ℕ) → k ≤ w → v k < 2 ^ w) → (i j a b : ℕ) → i ≤ w → j ≤ w → a < 2 ^ w → b < 2 ^ w
    → a ⊕ b ≡ parity_syndrome w v → weighed w f i a ⊕ weighed w f j b ≡ check_syndrome w f v
    → IsGroup w f (λ k. v k ⊕ error_at i a k ⊕ error_at j b k)
unfolding parity_syndrome check_syndrome
corrects_two w f fits v bounds i j a b hi hj ha hb e q = record {
  bounds = error_bounds w f fits once once_lt j b hj hb;
  parity =
      parity_error w f fits once once_lt j b hj hb
      ∙ ap (λ (y : ℕ). y ⊕ b) (parity_error w f fits v bounds i a hi ha)
      ∙ xor_assoc (parity_syndrome w v) a b
      ∙ ap (λ (y : ℕ). parity_syndrome w v ⊕ y) e
      ∙ xor_self (parity_syndrome w v);
  checked =
      check_error w f fits once once_lt j b hj hb
      ∙ ap (λ (y : ℕ). y ⊕ weighed w f j b) (check_error w f fits v bounds i a hi ha)
      ∙ xor_assoc (check_syndrome w f v) (weighed w f i a) (weighed w f j b)
      ∙ ap (λ (y : ℕ). check_syndrome w f v ⊕ y) q
      ∙ xor_self (check_syndrome w f v);
}
  where
    once : ℕ → ℕ
    once k = v k ⊕ error_at i a k

    once_lt : (k : ℕ) → k ≤ w → once k < 2 ^ w
    once_lt = error_bounds w f fits v bounds i a hi ha

-- ---- the error found in the second of two tracks

module _ (w f n : ℕ) (s : Suits w f) (x : Exponent w f n) (odd : n ≡ 2 * (n / 2) + 1) (wide : w ≤ n) (i j : ℕ) (below : i < j) (within : j ≤ w)
    (s1 s2 : ℕ) (small1 : s1 < 2 ^ w) (small2 : s2 < 2 ^ w) where
  -- S1, and S2 in the scale of track i
  both : ℕ
  both = s1 ⊕ shifts w f (n - i) s2

  both_lt : both < 2 ^ w
  unfolding both
  both_lt = xor_lt w s1 _ small1 (shifts_lt w f (n - i) s2 s.fits small2)

  second : ℕ
  second = second_error w f n i j s1 s2

  second_low : j < w → second ≡ erasure w f n (j - i) both
  unfolding second second_error both
  second_low h = ap (λ (b : Bool). cond b (erasure w f n (j - i) both) both) (lt-ltb j w h)

  second_parity : w ≤ j → second ≡ both
  unfolding second second_error both
  second_parity h = ap (λ (b : Bool). cond b (erasure w f n (j - i) both) both) (le-ltb j w h)

  -- what the error leaves in the scale of track i, beside itself
  Beside : Type 0
  Beside = (r : ℕ) × (second < 2 ^ w) × (r < 2 ^ w) × (second ⊕ r ≡ both) × (weighed w f j second ≡ shifts w f i r)

  rest : Beside
  unfolding Beside
  rest = by (dec_lt j w)
    where
      by : Dec (j < w) → Beside
      by (yes h) =
          let small : second < 2 ^ w =
          rw (second_low h) (erasure_lt w f n s x odd (j - i) (omega arith) (omega arith) both both_lt) in
          let apart : j ≡ i + (j - i) = omega arith in (
            shifts w f (j - i) second,
            small,
            shifts_lt w f (j - i) second s.fits small,
            rw (second_low h) (erasure_inverts w f n s x odd (j - i) (omega arith) (omega arith) both both_lt),
            weighed_low w f j second h ∙ ap (λ (m : ℕ). shifts w f m second) apart ∙ shifts_add w f i (j - i) second,
          )
      by (no h) = (
        0,
        rw (second_parity (omega arith)) both_lt,
        pow_pos w,
        xor_zero_r second ∙ second_parity (omega arith),
        weighed_parity w f j second (omega arith) ∙ sym (shifts_zero w f i),
      )

  pub second_lt : second_error w f n i j s1 s2 < 2 ^ w
  unfolding Beside second
  second_lt = rest.1

  pub second_accounts : weighed w f i (s1 ⊕ second_error w f n i j s1 s2) ⊕ weighed w f j (second_error w f n i j s1 s2) ≡ s2
  unfolding Beside second both
  second_accounts =
      ap₂ ◌⊕◌ (weighed_low w f i (s1 ⊕ second) (omega arith)) rest.4
      ∙ sym (shifts_xor w f i (s1 ⊕ second) rest.0 s.fits (xor_lt w s1 second small1 rest.1) rest.2)
      ∙ ap (shifts w f i)
      (xor_assoc s1 second rest.0 ∙ ap (λ (y : ℕ). s1 ⊕ y) rest.3 ∙ xor_cancel s1 (shifts w f (n - i) s2))
      ∙ shifts_back w f n x s.fits i s2 (omega arith) small2

-- ---- the other way: a group that differs from what was read in one track

module _ (w f : ℕ) (fits : f < 2 ^ w) (v : ℕ → ℕ) (bounds : (k : ℕ) → k ≤ w → v k < 2 ^ w) (g : ℕ → ℕ) (group : IsGroup w f g)
    (i : ℕ) (within : i ≤ w) (agree : AgreeBut (suc w) v g i i) where
  error : ℕ
  error = v i ⊕ g i

  error_small : error < 2 ^ w
  unfolding error
  error_small = xor_lt w (v i) (g i) (bounds i within) (group.bounds i within)

  read : (j : ℕ) → j < suc w → v j ≡ g j ⊕ error_at i error j
  unfolding error
  read j h = by (ℕ_discrete j i)
    where
      by : Dec (j ≡ i) → v j ≡ g j ⊕ error_at i error j
      by (yes e) =
          rw e
          (sym (ap (λ (y : ℕ). g i ⊕ y) (error_here i error)
          ∙ xor_left_comm (g i) (v i) (g i)
          ∙ ap (λ (y : ℕ). v i ⊕ y) (xor_self (g i))
          ∙ xor_zero_r (v i)))
      by (no ne) = agree j h ne ne ∙ sym (untouched (g j) i error j ne)

  -- its error is S1, so it accounts for S2
  parity_is : parity_syndrome w v ≡ error
  unfolding parity_syndrome
  parity_is =
      sum_ext (suc w) v _ read
      ∙ parity_error w f fits g group.bounds i error within error_small
      ∙ ap (λ (y : ℕ). y ⊕ error) group.parity

  pub accounts : weighed w f i (parity_syndrome w v) ≡ check_syndrome w f v
  unfolding check_syndrome
  accounts =
      ap (weighed w f i) parity_is
      ∙ sym (sum_ext w _ _ (λ j h. ap (shifts w f j) (read j (omega arith)))
      ∙ check_error w f fits g group.bounds i error within error_small
      ∙ ap (λ (y : ℕ). y ⊕ weighed w f i error) group.checked)
