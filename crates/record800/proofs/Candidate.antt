-- The candidate of a track: the reading with that track's bit changed in the characters of wrong parity. Its parities are those of a
-- written record, its sums are the reading's and the wrong characters' own, and where the track holds it is a written record.
-- Assumes nothing.
use mathlib.Core.Path.{◌≡◌, refl, sym, ap, ap₂, ◌∙◌}
use mathlib.Core.Bool.{Bool, true, false, cond, ◌&&◌}
use mathlib.Core.List.{List}
use Prim.Native.Nat.{ℕ, ◌+◌, ◌*◌, ◌%◌, ◌^◌, ◌<◌}
use native.Mathlib.Nat.{zero-mul}
use native.Mathlib.Omega.{arith}
use borrow.Author.Tests.{eqb-true, eq-eqb, ne_eqb}
use lib.Bits.{xor_lt, xor_self, xor_zero_r}
use lib.Dec.{eqb, lit<}
use lib.ListN.{get_or}
use lib.Pow.{pow-lt}
use Rattle.indexed.specs.List.{tabulate}
use Rattle.indexed.proofs.Test.{both_true}
use Rattle.indexed.proofs.Total.{total_none, none_of_total}
use Rattle.register.specs.Parity.{parity}
use Rattle.register.specs.Shift.{shifts}
use Rattle.register.specs.Sum.{xor_sum}
use Rattle.register.specs.Xor.{◌⊕◌}
use Rattle.register.proofs.Expand.{digit_place_lt}
use Rattle.register.proofs.Held.{held_ext, held_zero, held_xor, held_of_shifts, held_shifts}
use Rattle.register.proofs.Linear.{shl_xor, linear_sum}
use Rattle.register.proofs.Parity.{parity_lt, parity_xor, parity_place}
use Rattle.register.proofs.Shift.{shifts_zero, shifts_place}
use Rattle.register.proofs.Sum.{sum_zero, sum_xor}
use Rattle.register.proofs.Xor.{digit_ind, odd_lt, xor_cancel, xor_zero→eq}
use Rattle.cyclic.specs.Constants.{feedback, offset, tracks, checks}
use Rattle.record800.specs.Read.{expected_parity, wrong, check_read, error_pattern, longitudinal_read, wrong_parity, wrong_count, candidate, holds}
use Rattle.record800.specs.Record.{check_sum, written_record}
use Rattle.record800.proofs.Recorded.{written_if}

module _ (n : ℕ) (l : List ℕ) where
  expected_lt : (k : ℕ) → expected_parity n l k < 2
  unfolding expected_parity
  expected_lt k = by (eqb k n)
    where
      by : (b : Bool) → cond b ((n + 1) % 2) 1 < 2
      by true = odd_lt (n + 1)
      by false = omega arith

  -- data characters are odd
  pub expected_odd : (k : ℕ) → k < n → expected_parity n l k ≡ 1
  unfolding expected_parity
  expected_odd k h = ap (λ (b : Bool). cond b ((n + 1) % 2) 1) (ne_eqb k n (λ q. omega arith))

  pub wrong_lt : (k : ℕ) → wrong n l k < 2
  unfolding wrong
  wrong_lt k = xor_lt 1 (parity (get_or l k 0)) (expected_parity n l k) (parity_lt (get_or l k 0)) (expected_lt k)

  -- ---- a reading of which no parity is wrong

  pub none_wrong : wrong_count n l ≡ 0 → (k : ℕ) → k < n + checks → wrong n l k ≡ 0
  unfolding wrong_count
  none_wrong e = none_of_total (n + checks) (wrong n l) e

  pub candidate_same : wrong_count n l ≡ 0 → (j k : ℕ) → k < n + checks → candidate n l j k ≡ get_or l k 0
  unfolding candidate
  candidate_same e j k h =
      ap (λ (w : ℕ). get_or l k 0 ⊕ w * 2 ^ j) (none_wrong e k h)
      ∙ ap (λ (w : ℕ). get_or l k 0 ⊕ w) (zero-mul (2 ^ j))
      ∙ xor_zero_r (get_or l k 0)

  pub no_pattern : wrong_count n l ≡ 0 → error_pattern n l ≡ 0
  unfolding error_pattern
  no_pattern e = held_zero 9 feedback 0 (n + 1) (wrong n l) (λ k h. none_wrong e k (omega arith))

  pub even_wrong : wrong_count n l ≡ 0 → wrong_parity n l ≡ 0
  unfolding wrong_parity
  even_wrong e = sum_zero (n + checks) (wrong n l) (none_wrong e)

  -- all tracks hold or none does
  pub holds_same : wrong_count n l ≡ 0 → (j : ℕ) → holds n l j ≡ holds n l 0
  unfolding holds shifts
  holds_same e j =
      ap₂ (λ (x y : ℕ). eqb (check_read n l ⊕ x) offset && eqb (longitudinal_read n l) y)
      (ap (shifts 9 feedback j) (no_pattern e) ∙ shifts_zero 9 feedback j ∙ sym (no_pattern e))
      (ap (λ (w : ℕ). w * 2 ^ j) (even_wrong e) ∙ zero-mul (2 ^ j) ∙ sym (zero-mul (2 ^ 0)) ∙ sym (ap (λ (w : ℕ). w * 2 ^ 0) (even_wrong e)))

  module _ (below : (k : ℕ) → get_or l k 0 < 512) (j : ℕ) (is_track : j < tracks) where
    pub candidate_lt : (k : ℕ) → candidate n l j k < 512
    unfolding candidate
    candidate_lt k = xor_lt 9 (get_or l k 0) (wrong n l k * 2 ^ j) (below k) (digit_place_lt 9 j (wrong n l k) is_track (wrong_lt k))

    pub candidate_parity : (k : ℕ) → parity (candidate n l j k) ≡ expected_parity n l k
    unfolding candidate wrong
    candidate_parity k =
        parity_xor (get_or l k 0) (wrong n l k * 2 ^ j)
        ∙ ap (λ (p : ℕ). parity (get_or l k 0) ⊕ p) (parity_place (wrong n l k) j (wrong_lt k))
        ∙ xor_cancel (parity (get_or l k 0)) (expected_parity n l k)

    -- bit j of character k is X^j, and powers of X commute
    pub candidate_check : check_sum (n + 1) (candidate n l j) ≡ check_read n l ⊕ shifts 9 feedback j (error_pattern n l)
    unfolding candidate check_read error_pattern
    candidate_check =
        held_xor 9 feedback 0 (n + 1) (λ k. get_or l k 0) (lit< tt) (λ k h. below k) (λ k. wrong n l k * 2 ^ j)
        (λ k h. digit_place_lt 9 j (wrong n l k) is_track (wrong_lt k))
        ∙ ap (λ (x : ℕ). check_read n l ⊕ x)
        (held_ext 9 feedback 0 (n + 1) _ _ (λ k h. sym (shifts_place 9 feedback j (wrong n l k) is_track (wrong_lt k)))
        ∙ held_of_shifts 9 feedback 0 (n + 1) (wrong n l) j
        ∙ sym (held_shifts 9 feedback 0 (n + 1) (wrong n l) (lit< tt) (λ k h. omega (arith, wrong_lt k)) j))

    pub candidate_longitudinal : xor_sum (n + checks) (candidate n l j) ≡ longitudinal_read n l ⊕ wrong_parity n l * 2 ^ j
    unfolding candidate longitudinal_read wrong_parity
    candidate_longitudinal =
        sum_xor (n + checks) (λ k. get_or l k 0) (λ k. wrong n l k * 2 ^ j)
        ∙ ap (λ (x : ℕ). longitudinal_read n l ⊕ x)
        (sym (linear_sum 1 (λ a. a * 2 ^ j) (λ a b ha hb. shl_xor j a b) (n + checks) (wrong n l) (λ k h. wrong_lt k)))

    -- ---- where the track holds

    pub holds_sums : holds n l j ≡ true → (check_sum (n + 1) (candidate n l j) ≡ offset) × (xor_sum (n + checks) (candidate n l j) ≡ 0)
    unfolding holds
    holds_sums e =
        let b =
        both_true (eqb (check_read n l ⊕ shifts 9 feedback j (error_pattern n l)) offset) (eqb (longitudinal_read n l) (wrong_parity n l * 2 ^ j)) e in (
          candidate_check ∙ eqb-true _ _ b.0,
          candidate_longitudinal
              ∙ ap (λ (x : ℕ). x ⊕ wrong_parity n l * 2 ^ j) (eqb-true (longitudinal_read n l) (wrong_parity n l * 2 ^ j) b.1)
              ∙ xor_self (wrong_parity n l * 2 ^ j),
        )

    pub sums_hold : check_sum (n + 1) (candidate n l j) ≡ offset → xor_sum (n + checks) (candidate n l j) ≡ 0 → holds n l j ≡ true
    unfolding holds
    sums_hold c x =
        ap₂ ◌&&◌ (eq-eqb _ _ (sym candidate_check ∙ c)) (eq-eqb _ _ (xor_zero→eq (longitudinal_read n l) (wrong_parity n l * 2 ^ j) (sym candidate_longitudinal ∙ x)))

    pub candidate_written : holds n l j ≡ true → written_record (tabulate n (λ k. candidate n l j k % 256)) ≡ tabulate (n + checks) (candidate n l j)
    candidate_written e =
        written_if n (candidate n l j) (λ k h. candidate_lt k) (λ k h. candidate_parity k ∙ expected_odd k h) (holds_sums e).0 (holds_sums e).1

-- ---- candidates of two tracks

-- a digit that is the same at two places is 0
digit_at_both : (d i j : ℕ) → d < 2 → i < j → d * 2 ^ i ≡ d * 2 ^ j → d ≡ 0
digit_at_both d i j hd h =
    digit_ind (λ (d : ℕ). d * 2 ^ i ≡ d * 2 ^ j → d ≡ 0) (λ e. refl) (λ e. absurd (omega (arith, pow-lt h))) d hd

-- if some parity is wrong they differ
pub tracks_apart : (n : ℕ) (l : List ℕ) → 0 < wrong_count n l → (i j : ℕ) → i < j
    → ((k : ℕ) → k < n + checks → candidate n l i k ≡ candidate n l j k) → ⊥
unfolding wrong_count candidate
tracks_apart n l some i j h same =
    omega (
      arith,
      total_none (n + checks) (wrong n l)
          (λ k b. digit_at_both (wrong n l k) i j (wrong_lt n l k) h
          (sym (xor_cancel (get_or l k 0) (wrong n l k * 2 ^ i))
          ∙ ap (λ (x : ℕ). get_or l k 0 ⊕ x) (same k b)
          ∙ xor_cancel (get_or l k 0) (wrong n l k * 2 ^ j))),
    )
