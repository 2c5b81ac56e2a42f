-- Laws of what a register holds, over its width w and its feedback f: it fits, it is linear, a shift raises every power, one step
-- takes it to one character more, and with an odd feedback it keeps the parity of what was entered.
-- Assumes nothing.
use mathlib.Core.Path.{◌≡◌, sym, ap, ap₂, ◌∙◌}
use Prim.Native.Nat.{ℕ, suc, ◌+◌, ◌^◌, ◌<◌}
use native.Mathlib.Omega.{arith}
use Rattle.register.specs.Xor.{◌⊕◌}
use Rattle.register.specs.Shift.{shift, shifts}
use Rattle.register.specs.Sum.{xor_sum}
use Rattle.register.specs.Held.{held}
use Rattle.register.specs.Parity.{parity}
use Rattle.register.proofs.Shift.{shifts_lt, shifts_xor, shifts_add, shifts_zero}
use Rattle.register.proofs.Sum.{sum_ext, sum_lt, sum_zero, sum_xor, sum_last, shifts_sum}
use Rattle.register.proofs.Parity.{sum_parity, shifts_parity}

module _ (w f i n : ℕ) (c : ℕ → ℕ) where
  -- the same characters, the same sum
  pub held_ext : (d : ℕ → ℕ) → ((k : ℕ) → k < n → c k ≡ d k) → held w f i n c ≡ held w f i n d
  unfolding held
  held_ext d e = sum_ext n _ _ (λ k h. ap (shifts w f _) (e k h))

  pub held_zero : ((k : ℕ) → k < n → c k ≡ 0) → held w f i n c ≡ 0
  unfolding held
  held_zero e = sum_zero n _ (λ k h. ap (shifts w f _) (e k h) ∙ shifts_zero w f _)

  -- the last character apart
  pub held_last : held w f i (suc n) c ≡ held w f (1 + i) n c ⊕ shifts w f i (c n)
  unfolding held
  held_last =
      sum_last n _
      ∙ ap₂ ◌⊕◌ (sum_ext n _ _ (λ k h. ap (λ (m : ℕ). shifts w f m (c k)) (omega arith)))
      (ap (λ (m : ℕ). shifts w f m (c n)) (omega arith))

  -- characters that are shifted before they are entered
  pub held_of_shifts : (j : ℕ) → held w f i n (λ k. shifts w f j (c k)) ≡ held w f (j + i) n c
  unfolding held
  held_of_shifts j =
      sum_ext n _ _ (λ k h. sym (shifts_add w f _ j (c k)) ∙ ap (λ (m : ℕ). shifts w f m (c k)) (omega arith))

  module _ (fits : f < 2 ^ w) (below : (k : ℕ) → k < n → c k < 2 ^ w) where
    pub held_lt : held w f i n c < 2 ^ w
    unfolding held
    held_lt = sum_lt w n _ (λ k h. shifts_lt w f _ (c k) fits (below k h))

    pub held_xor : (d : ℕ → ℕ) → ((k : ℕ) → k < n → d k < 2 ^ w) → held w f i n (λ k. c k ⊕ d k) ≡ held w f i n c ⊕ held w f i n d
    unfolding held
    held_xor d h = sum_ext n _ _ (λ k b. shifts_xor w f _ (c k) (d k) fits (below k b) (h k b)) ∙ sum_xor n _ _

    -- each power is j more
    pub held_shifts : (j : ℕ) → shifts w f j (held w f i n c) ≡ held w f (j + i) n c
    unfolding held
    held_shifts j =
        shifts_sum w f j n _ fits (λ k h. shifts_lt w f _ (c k) fits (below k h))
        ∙ sum_ext n _ _ (λ k h. sym (shifts_add w f j _ (c k)) ∙ ap (λ (m : ℕ). shifts w f m (c k)) (omega arith))

    -- one step takes what n characters leave to what one more leaves
    pub held_next : held w f i (suc n) c ≡ shift w f (held w f i n c) ⊕ shifts w f i (c n)
    unfolding shifts
    held_next = held_last ∙ ap (λ (x : ℕ). x ⊕ shifts w f i (c n)) (sym (held_shifts 1))

    pub held_parity : parity f ≡ 1 → parity (held w f i n c) ≡ parity (xor_sum n c)
    unfolding held
    held_parity odd =
        sum_parity n _ ∙ sum_ext n _ _ (λ k h. shifts_parity w f odd _ (c k) fits (below k h)) ∙ sym (sum_parity n c)
