-- Document 000's orthogonal symmetry, over the width: rows and columns exchanged twice are as they were, and the sum of T^i
-- over the rows is the sum of T^j over the columns.
-- Assumes nothing.
use mathlib.Core.Path.{◌≡◌, sym, ap, subst, ◌∙◌}
use Prim.Native.Nat.{ℕ, ◌+◌, ◌*◌, ◌^◌, ◌<◌}
use native.Mathlib.Nat.{add_comm}
use Rattle.indexed.specs.List.{tabulate}
use Rattle.indexed.proofs.Tabulate.{length_tabulate, tabulate_same}
use Rattle.register.specs.Bit.{bit, bits_of, of_bits}
use Rattle.register.specs.Shift.{shifts}
use Rattle.register.specs.Sum.{xor_sum}
use Rattle.register.proofs.Bit.{bit_lt, of_bits_lt, of_bits_bits_of}
use Rattle.register.proofs.Expand.{digits_tabulate, bit_tabulated, shifts_expanded}
use Rattle.register.proofs.Sum.{sum_ext, sum_swap}
use Rattle.rectangular.specs.Group.{column}

module _ (w : ℕ) (b : ℕ → ℕ) where
  pub column_lt : (j : ℕ) → column w b j < 2 ^ w
  unfolding column
  column_lt j =
      subst (λ (n : ℕ). column w b j < 2 ^ n) (length_tabulate w (λ i. bit j (b i)))
      (of_bits_lt (tabulate w (λ i. bit j (b i))) (digits_tabulate w (λ i. bit j (b i)) (λ i. bit_lt j (b i))))

  pub bit_column : (i j : ℕ) → i < w → bit i (column w b j) ≡ bit j (b i)
  unfolding column
  bit_column i j h = bit_tabulated w (λ i. bit j (b i)) (λ i. bit_lt j (b i)) i h

pub column_twice : (w : ℕ) (b : ℕ → ℕ) (i : ℕ) → i < w → b i < 2 ^ w → column w (column w b) i ≡ b i
unfolding column bits_of
column_twice w b i h below =
    ap of_bits (tabulate_same w (λ j. bit i (column w b j)) (λ j. bit j (b i)) (λ j _. bit_column w b i j h))
    ∙ of_bits_bits_of w (b i) below

pub column_ext : (w : ℕ) (b d : ℕ → ℕ) → ((i : ℕ) → i < w → b i ≡ d i) → (j : ℕ) → column w b j ≡ column w d j
unfolding column
column_ext w b d e j = ap of_bits (tabulate_same w (λ i. bit j (b i)) (λ i. bit j (d i)) (λ i h. ap (bit j) (e i h)))

pub rows_against_columns : (w f : ℕ) → f < 2 ^ w → (b : ℕ → ℕ) → ((i : ℕ) → i < w → b i < 2 ^ w)
    → xor_sum w (λ j. shifts w f j (column w b j)) ≡ xor_sum w (λ i. shifts w f i (b i))
rows_against_columns w f hf b below =
    sum_ext w _ _ (λ j h. shifts_expanded w f j (column w b j) hf (column_lt w b j)
    ∙ sum_ext w _ (λ i. bit j (b i) * shifts w f (i + j) 1)
    (λ i k. ap (λ (x : ℕ). x * shifts w f (j + i) 1) (bit_column w b i j k)
    ∙ ap (λ (n : ℕ). bit j (b i) * shifts w f n 1) (add_comm j i)))
    ∙ sum_swap w w (λ j i. bit j (b i) * shifts w f (i + j) 1)
    ∙ sum_ext w _ _ (λ i h. sym (shifts_expanded w f i (b i) hf (below i h)))
