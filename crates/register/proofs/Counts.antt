-- How many numbers have each bit: all of these counts together are the ones of all numbers.
-- Assumes nothing.
use mathlib.Core.Path.{◌≡◌, sym, ap, ◌∙◌}
use mathlib.Core.List.{List}
use Prim.Native.Nat.{ℕ, ◌+◌, ◌^◌, ◌<◌, ◌≤◌}
use native.Mathlib.Numerals.{add-one}
use lib.Count.{ones}
use lib.ListN.{length, get_or}
use Rattle.indexed.specs.List.{tabulate, total}
use Rattle.indexed.proofs.Tabulate.{length_tabulate, get_d_tabulate, tabulate_same}
use Rattle.indexed.proofs.Total.{total_same, total_swap, total_digits, total_none}
use Rattle.register.specs.Bit.{bit, bits_of}
use Rattle.register.specs.Counts.{bit_count, bit_counts}
use Rattle.register.proofs.Bit.{bit_lt, of_bits_bits_of}
use Rattle.register.proofs.Expand.{bit_of_zero}
use Rattle.register.proofs.Ones.{ones_of_bits}

-- the ones of a number are the sum of its bits
ones_total : (w a : ℕ) → a < 2 ^ w → ones a ≡ total w (λ k. bit k a)
unfolding bits_of
ones_total w a h = ap ones (sym (of_bits_bits_of w a h)) ∙ ones_of_bits w (λ k. bit k a) (λ k b. bit_lt k a)

pub length_counts : (w : ℕ) (numbers : List ℕ) → length (bit_counts w numbers) ≡ w
unfolding bit_counts
length_counts w numbers = length_tabulate w _

pub get_or_counts : (w : ℕ) (numbers : List ℕ) (k : ℕ) → k < w → get_or (bit_counts w numbers) k 0 ≡ bit_count k numbers
unfolding bit_counts
get_or_counts w numbers k h = get_d_tabulate w _ k 0 h

-- of a list by its elements
pub count_tabulate : (k n : ℕ) (f : ℕ → ℕ) → bit_count k (tabulate n f) ≡ total n (λ g. bit k (f g))
unfolding bit_count
count_tabulate k n f =
    ap (λ (m : ℕ). total m (λ g. bit k (get_or (tabulate n f) g 0))) (length_tabulate n f)
    ∙ total_same n _ _ (λ g h. ap (bit k) (get_d_tabulate n f g 0 h))

-- ---- one by one

-- how many of the first n values have bit k
abbrev pub first_bits : (ℕ → ℕ) → ℕ → ℕ → ℕ
first_bits f n k = total n (λ g. bit k (f g))

module _ (f : ℕ → ℕ) (n : ℕ) where
  pub bits_le : (k : ℕ) → first_bits f n k ≤ n
  bits_le k = total_digits n _ (λ g. bit_lt k (f g))

  -- one value more
  pub bits_more : (m : ℕ) → m ≡ f n → (k : ℕ) → first_bits f n k + bit k m ≡ first_bits f (n + 1) k
  unfolding total
  bits_more m e k = ap (λ (x : ℕ). first_bits f n k + bit k x) e ∙ ap (λ (j : ℕ). first_bits f j k) (sym (add-one n))

  -- all of them together are the ones of the values
  pub bits_total : (w : ℕ) → ((g : ℕ) → g < n → f g < 2 ^ w) → total w (first_bits f n) ≡ total n (λ g. ones (f g))
  bits_total w below = total_swap w n (λ k g. bit k (f g)) ∙ total_same n _ _ (λ g h. sym (ones_total w (f g) (below g h)))

  -- and each by itself is that of the list
  pub bits_all : (w : ℕ) → tabulate w (first_bits f n) ≡ bit_counts w (tabulate n f)
  unfolding bit_counts
  bits_all w = tabulate_same w _ _ (λ k h. sym (count_tabulate k n f))

-- the counts of a list together
pub counts_total : (w : ℕ) (numbers : List ℕ) → ((g : ℕ) → g < length numbers → get_or numbers g 0 < 2 ^ w)
    → total w (λ k. get_or (bit_counts w numbers) k 0) ≡ total (length numbers) (λ g. ones (get_or numbers g 0))
unfolding bit_count
counts_total w numbers below =
    total_same w _ _ (λ k h. get_or_counts w numbers k h) ∙ bits_total (λ g. get_or numbers g 0) (length numbers) w below

-- of zeros
pub counts_of_zeros : (w n : ℕ) → tabulate w (λ k. 0) ≡ bit_counts w (tabulate n (λ g. 0))
counts_of_zeros w n = tabulate_same w _ _ (λ k h. sym (total_none n _ (λ g b. bit_of_zero k))) ∙ bits_all (λ g. 0) n w
