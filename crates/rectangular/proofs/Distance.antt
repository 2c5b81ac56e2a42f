-- Over the width: no two tracks weigh an error alike, so that two groups of the code that agree but for two tracks are equal (document
-- 000, theorems 1 and 2), and two unequal groups differ in three tracks at least.
-- Assumes nothing.
use mathlib.Core.Path.{◌≡◌, sym, ap, ap₂, ◌∙◌}
use Prim.Native.Nat.{ℕ, suc, ◌+◌, ◌-◌, ◌^◌, ◌<◌, ◌≤◌}
use native.Mathlib.Decide.{ℕ_discrete, dec_lt}
use native.Mathlib.Omega.{arith}
use lib.Bits.{xor_lt, xor_self}
use lib.Pow.{pow_pos}
use Rattle.indexed.specs.Differ.{differences}
use Rattle.indexed.proofs.Differ.{AgreeBut, two}
use Rattle.register.specs.Shift.{shifts}
use Rattle.register.specs.Sum.{xor_sum}
use Rattle.register.specs.Xor.{◌⊕◌}
use Rattle.register.proofs.Exponent.{shifts_injective}
use Rattle.register.proofs.Shift.{shifts_lt, shifts_xor, shifts_zero, shifts_add}
use Rattle.register.proofs.Sum.{sum_ext, sum_xor, sum_one, sum_two}
use Rattle.register.proofs.Xor.{xor_zero→eq}
use Rattle.rectangular.specs.Group.{IsGroup, Suits}
use Rattle.rectangular.specs.Syndrome.{weighed}
use Rattle.rectangular.proofs.Syndrome.{weighed_low, weighed_parity}

-- an error that leaves the same in S2 from two tracks is none: a power of T keeps it, or takes it to 0
pub weighed_apart : (w f : ℕ) → Suits w f → (i j : ℕ) → i < j → j ≤ w → (e : ℕ) → e < 2 ^ w → weighed w f i e ≡ weighed w f j e → e ≡ 0
weighed_apart w f s i j below within e small same = by (dec_lt j w)
  where
    by : Dec (j < w) → e ≡ 0
    by (yes h) =
        let apart : i + (j - i) ≡ j = omega arith in
        let kept : shifts w f i (shifts w f (j - i) e) ≡ shifts w f i e =
        sym (shifts_add w f i (j - i) e)
        ∙ ap (λ (n : ℕ). shifts w f n e) apart
        ∙ sym (weighed_low w f j e h)
        ∙ sym same
        ∙ weighed_low w f i e (omega arith) in
        s.keeps_none (j - i) (omega arith) (omega arith) e small
        (shifts_injective w f s.exponent s.is_exponent s.fits i (shifts w f (j - i) e) e (shifts_lt w f (j - i) e s.fits small) small kept)
    by (no h) =
        let alone : shifts w f i e ≡ 0 = sym (weighed_low w f i e (omega arith)) ∙ same ∙ weighed_parity w f j e (omega arith) in
        shifts_injective w f s.exponent s.is_exponent s.fits i e 0 small (pow_pos w) (alone ∙ sym (shifts_zero w f i))

module _ (w f : ℕ) (s : Suits w f) (u v : ℕ → ℕ) (gu : IsGroup w f u) (gv : IsGroup w f v) where
  -- the difference, track by track; it satisfies the same equations
  d : ℕ → ℕ
  d k = u k ⊕ v k

  d_lt : (k : ℕ) → k ≤ w → d k < 2 ^ w
  unfolding d
  d_lt k h = xor_lt w (u k) (v k) (gu.bounds k h) (gv.bounds k h)

  d_parity : xor_sum (suc w) d ≡ 0
  unfolding d
  d_parity = sum_xor (suc w) u v ∙ ap₂ ◌⊕◌ gu.parity gv.parity

  d_checked : xor_sum w (λ k. shifts w f k (d k)) ≡ 0
  unfolding d
  d_checked =
      sum_ext w _ (λ k. shifts w f k (u k) ⊕ shifts w f k (v k))
      (λ k h. shifts_xor w f k (u k) (v k) s.fits (gu.bounds k (omega arith)) (gv.bounds k (omega arith)))
      ∙ sum_xor w (λ k. shifts w f k (u k)) (λ k. shifts w f k (v k))
      ∙ ap₂ ◌⊕◌ gu.checked gv.checked

  module _ (i j : ℕ) (below : i < j) (within : j ≤ w) (agree : AgreeBut (suc w) u v i j) where
    d_elsewhere : (k : ℕ) → k < suc w → (k ≡ i → ⊥) → (k ≡ j → ⊥) → d k ≡ 0
    unfolding d
    d_elsewhere k h ni nj = ap (λ (x : ℕ). x ⊕ v k) (agree k h ni nj) ∙ xor_self (v k)

    -- by the parity the two differences are equal
    d_equal : d i ≡ d j
    d_equal = xor_zero→eq (d i) (d j) (sym (sum_two (suc w) d i j below (omega arith) d_elsewhere) ∙ d_parity)

    -- by the check equation both tracks weigh it alike
    d_zero : d i ≡ 0
    d_zero = weighed_apart w f s i j below within (d i) (d_lt i (omega arith)) (by (dec_lt j w))
      where
        shifted_zero : (k : ℕ) → d k ≡ 0 → shifts w f k (d k) ≡ 0
        shifted_zero k e = ap (shifts w f k) e ∙ shifts_zero w f k

        by : Dec (j < w) → weighed w f i (d i) ≡ weighed w f j (d i)
        by (yes h) =
            let both : shifts w f i (d i) ⊕ shifts w f j (d j) ≡ 0 =
            sym (sum_two w (λ k. shifts w f k (d k)) i j below h (λ k b ni nj. shifted_zero k (d_elsewhere k (omega arith) ni nj)))
            ∙ d_checked in
            weighed_low w f i (d i) (omega arith)
            ∙ xor_zero→eq (shifts w f i (d i)) (shifts w f j (d j)) both
            ∙ ap (shifts w f j) (sym d_equal)
            ∙ sym (weighed_low w f j (d i) h)
        by (no h) =
            weighed_low w f i (d i) (omega arith)
            ∙ sym (sum_one w (λ k. shifts w f k (d k)) i (omega arith)
            (λ k b ni. shifted_zero k (d_elsewhere k (omega arith) ni (λ e. omega arith))))
            ∙ d_checked
            ∙ sym (weighed_parity w f j (d i) (omega arith))

    pub two_tracks : (k : ℕ) → k ≤ w → u k ≡ v k
    unfolding d
    two_tracks k h = xor_zero→eq (u k) (v k) (at (ℕ_discrete k i) (ℕ_discrete k j))
      where
        at : Dec (k ≡ i) → Dec (k ≡ j) → d k ≡ 0
        at (yes e) q = ap d e ∙ d_zero
        at (no ni) (yes e) = ap d e ∙ sym d_equal ∙ d_zero
        at (no ni) (no nj) = d_elsewhere k (omega arith) ni nj

  pub three_tracks : differences (suc w) u v ≤ 2 → (k : ℕ) → k ≤ w → u k ≡ v k
  three_tracks h =
      let whole : suc w ≡ suc (suc (w - 1)) = ap suc (omega (arith, s.positive)) in
      let c = two u v (w - 1) (rw whole at h) in
      two_tracks c.0 c.1 c.2 (omega arith) (rw whole c.4)
