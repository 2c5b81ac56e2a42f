-- What one pass over a reading gathers: the registers, step by step, and the sums at its end.
-- Assumes nothing.
use mathlib.Core.Path.{◌≡◌, refl, sym, ap, ap₂, ◌∙◌}
use mathlib.Core.Bool.{Bool, cond}
use mathlib.Core.List.{List}
use Prim.Native.Nat.{ℕ, zero, suc, ◌+◌, ◌-◌, ◌*◌, ◌%◌, ◌<◌, ◌≤◌}
use native.Mathlib.Numerals.{add-one}
use native.Mathlib.Omega.{arith}
use borrow.Author.Tests.{eq-eqb, ne_eqb}
use lib.Dec.{lit<}
use lib.ListN.{length, get_or}
use Rattle.indexed.specs.List.{total}
use Rattle.register.specs.Parity.{parity}
use Rattle.register.specs.Held.{held}
use Rattle.register.specs.Shift.{shifts}
use Rattle.register.specs.Sum.{xor_sum}
use Rattle.register.specs.Xor.{◌⊕◌}
use Rattle.register.proofs.Held.{held_lt, held_next, held_shifts}
use Rattle.register.proofs.Shift.{shifts_place}
use Rattle.register.proofs.Sum.{sum_last}
use Rattle.cyclic.specs.Constants.{feedback, times_x}
use Rattle.record800.specs.Fits.{Passes}
use Rattle.record800.specs.Read.{picture, expected_parity, wrong, check_read, error_pattern, longitudinal_read, wrong_count}
use Rattle.record800.specs.Record.{check_sum}
use Rattle.record800.proofs.Candidate.{expected_odd, wrong_lt}
use Rattle.record800.proofs.Picture.{lengths_within, picture_below}

module _ (n : ℕ) (l : List ℕ) where
  -- the registers and sums after k characters
  abbrev pub After : ℕ → ℕ → ℕ → ℕ → ℕ → Type 0
  After k check error longitudinal count =
      (check ≡ check_sum k (λ i. get_or l i 0)) × (error ≡ held 9 feedback 8 k (wrong n l))
      × (longitudinal ≡ xor_sum k (λ i. get_or l i 0)) × (count ≡ total k (wrong n l))

-- no more are wrong than there are
count_le : (n : ℕ) (l : List ℕ) (k : ℕ) → total k (wrong n l) ≤ k
unfolding total
count_le n l zero = omega arith
count_le n l (suc k) = omega (arith, count_le n l k, wrong_lt n l k)

module _ {backward : Bool} {characters : List ℕ} (passes : Passes backward characters) where
  abbrev n : ℕ
  n = length characters - 2

  abbrev l : List ℕ
  l = picture backward characters

  -- so few that every count fits
  pub few_wrong : (k : ℕ) {count : ℕ} → count ≡ total k (wrong n l) → k ≤ n + 2 → count ≤ 2050
  few_wrong k e h = omega (arith, count_le n l k, lengths_within backward characters passes)

  -- ---- whether a character's parity is wrong, by its place

  -- a character has nine bits
  pub nine_bits : (k : ℕ) {character : ℕ} → character ≡ get_or l k 0 → character < 512
  nine_bits k e = rw e (picture_below backward characters passes k)

  pub data_wrong : (k : ℕ) {character p : ℕ} → character ≡ get_or l k 0 → p ≡ parity character → k < n → p ⊕ 1 ≡ wrong n l k
  unfolding wrong
  data_wrong k e is h = ap₂ ◌⊕◌ (is ∙ ap parity e) (sym (expected_odd n l k h))

  pub check_wrong : {character p : ℕ} → character ≡ get_or l n 0 → p ≡ parity character → p ⊕ (n + 1) % 2 ≡ wrong n l n
  unfolding wrong expected_parity
  check_wrong e is = ap₂ (λ (q : ℕ) (b : Bool). q ⊕ cond b ((n + 1) % 2) 1) (is ∙ ap parity e) (sym (eq-eqb n n refl))

  pub last_wrong : {character p : ℕ} → character ≡ get_or l (n + 1) 0 → p ≡ parity character → p ⊕ 1 ≡ wrong n l (n + 1)
  unfolding wrong expected_parity
  last_wrong e is = ap₂ (λ (q : ℕ) (b : Bool). q ⊕ cond b ((n + 1) % 2) 1) (is ∙ ap parity e) (sym (ne_eqb (n + 1) n (λ q. omega arith)))

  -- ---- the registers and sums

  wrong_below : (k i : ℕ) → i < k → wrong n l i < 512
  wrong_below k i h = omega (arith, wrong_lt n l i)

  -- what a step asks: both registers have nine bits, and the flag is a digit
  pub step_asks : (k i : ℕ) {check error longitudinal count flag : ℕ} → After n l k check error longitudinal count → flag ≡ wrong n l i
      → (check < 512) × (error < 512) × (flag < 2)
  step_asks k i at is-flag = (
    rw at.0 (held_lt 9 feedback 0 k (λ i. get_or l i 0) (lit< tt) (λ i h. picture_below backward characters passes i)),
    rw at.1 (held_lt 9 feedback 8 k (wrong n l) (lit< tt) (wrong_below k)),
    rw is-flag (wrong_lt n l i),
  )

  pub step : (k : ℕ) {check error longitudinal count : ℕ} → After n l k check error longitudinal count → {character flag : ℕ}
      → character ≡ get_or l k 0 → flag ≡ wrong n l k
      → After n l (k + 1) (times_x check ⊕ character) (times_x error ⊕ flag * 256) (longitudinal ⊕ character) (count + flag)
  unfolding total times_x shifts
  step k at is-character is-flag =
      let next : suc k ≡ k + 1 = sym (add-one k) in (
        ap₂ (λ (s c : ℕ). times_x s ⊕ c) at.0 is-character
            ∙ sym (held_next 9 feedback 0 k (λ i. get_or l i 0) (lit< tt) (λ i h. picture_below backward characters passes i))
            ∙ ap (λ (m : ℕ). check_sum m (λ i. get_or l i 0)) next,
        ap₂ (λ (s f : ℕ). times_x s ⊕ f * 256) at.1 is-flag
            ∙ ap (λ (x : ℕ). times_x (held 9 feedback 8 k (wrong n l)) ⊕ x) (sym (shifts_place 9 feedback 8 (wrong n l k) (lit< tt) (wrong_lt n l k)))
            ∙ sym (held_next 9 feedback 8 k (wrong n l) (lit< tt) (wrong_below k))
            ∙ ap (λ (m : ℕ). held 9 feedback 8 m (wrong n l)) next,
        ap₂ ◌⊕◌ at.2 is-character ∙ sym (sum_last k (λ i. get_or l i 0)) ∙ ap (λ (m : ℕ). xor_sum m (λ i. get_or l i 0)) next,
        ap₂ ◌+◌ at.3 is-flag ∙ ap (λ (m : ℕ). total m (wrong n l)) next,
      )

  -- all but the longitudinal character entered, and then it
  pub finish : {check error longitudinal count last flag : ℕ} → After n l (n + 1) check error longitudinal count
      → last ≡ get_or l (n + 1) 0 → flag ≡ wrong n l (n + 1)
      → (check ≡ check_read n l) × (error ≡ shifts 9 feedback 8 (error_pattern n l)) × (longitudinal ⊕ last ≡ longitudinal_read n l)
      × (count + flag ≡ wrong_count n l)
  unfolding check_read error_pattern longitudinal_read wrong_count total
  finish at is_last is-flag =
      let next : suc (n + 1) ≡ n + 2 = omega arith in (
        at.0,
        at.1 ∙ sym (held_shifts 9 feedback 0 (n + 1) (wrong n l) (lit< tt) (wrong_below (n + 1)) 8),
        ap₂ ◌⊕◌ at.2 is_last ∙ sym (sum_last (n + 1) (λ i. get_or l i 0)) ∙ ap (λ (m : ℕ). xor_sum m (λ i. get_or l i 0)) next,
        ap₂ ◌+◌ at.3 is-flag ∙ ap (λ (m : ℕ). total m (wrong n l)) next,
      )
