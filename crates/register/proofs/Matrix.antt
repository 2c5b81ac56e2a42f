-- A matrix times a number, column by column.
-- Assumes nothing.
use mathlib.Core.Path.{◌≡◌, refl, sym, ap, ap₂, ◌∙◌}
use mathlib.Core.List.{List, [], ◌∷◌}
use Prim.Native.Nat.{ℕ, ◌+◌, ◌*◌, ◌/◌, ◌%◌, ◌<◌, ◌≤◌}
use native.Mathlib.Nat.{one-mul, zero-mul}
use native.Mathlib.Numerals.{add-one}
use native.Mathlib.Omega.{arith}
use lib.Bits.{xor_mod, xor_zero_r}
use lib.ListN.{length, get_or, drop, drop_of_length-le}
use lib.Seq.{drop-cons}
use Rattle.register.specs.Matrix.{product}
use Rattle.register.specs.Xor.{◌⊕◌}
use Rattle.register.proofs.Shift.{times_digits_xor}
use Rattle.register.proofs.Xor.{odd_lt, xor_half, xor_assoc, xor_swap}

module _ (columns : List ℕ) (k sum n : ℕ) where
  -- the next column is added, if the number is odd
  pub next_column : (column : ℕ) → k < length columns → column ≡ n % 2 * get_or columns k 0
      → sum ⊕ column ⊕ product (drop (k + 1) columns) (n / 2) ≡ sum ⊕ product (drop k columns) n
  next_column column h e =
      xor_assoc sum column (product (drop (k + 1) columns) (n / 2))
      ∙ ap (λ (x : ℕ). sum ⊕ (x ⊕ product (drop (k + 1) columns) (n / 2))) e
      ∙ ap (λ (m : ℕ). sum ⊕ (n % 2 * get_or columns k 0 ⊕ product (drop m columns) (n / 2))) (add-one k)
      ∙ ap (λ (l : List ℕ). sum ⊕ product l n) (sym (drop-cons columns k 0 h))

  pub no_column : length columns ≤ k → sum ⊕ product (drop k columns) n ≡ sum
  no_column h = ap (λ (l : List ℕ). sum ⊕ product l n) (drop_of_length-le columns h) ∙ xor_zero_r sum

pub picked : (n column : ℕ) → n % 2 ≡ 1 → column ≡ n % 2 * column
picked n column odd = sym (ap (λ (d : ℕ). d * column) odd ∙ one-mul column)

pub passed_over : (n column : ℕ) → (n % 2 ≡ 1 → ⊥) → 0 ≡ n % 2 * column
passed_over n column other =
    let even : n % 2 ≡ 0 = omega (arith, other) in
    sym (ap (λ (d : ℕ). d * column) even ∙ zero-mul column)

-- ---- the product is linear

pub product_xor : (columns : List ℕ) (a b : ℕ) → product columns (a ⊕ b) ≡ product columns a ⊕ product columns b
product_xor [] a b = refl
product_xor (column ∷ columns) a b =
    ap₂ ◌⊕◌ (ap (λ (d : ℕ). d * column) (xor_mod a b 1) ∙ times_digits_xor column (a % 2) (b % 2) (odd_lt a) (odd_lt b))
    (ap (product columns) (xor_half a b) ∙ product_xor columns (a / 2) (b / 2))
    ∙ xor_swap (a % 2 * column) (b % 2 * column) (product columns (a / 2)) (product columns (b / 2))
