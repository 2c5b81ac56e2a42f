-- Laws of the digits that two numbers have in common, which the kit lacks: to take those in common with a mask is linear.
-- Assumes nothing.
use mathlib.Core.Path.{◌≡◌, refl, sym, ap, ap₂, ◌∙◌}
use Prim.Native.Nat.{ℕ, ◌+◌, ◌*◌, ◌/◌, ◌%◌, ◌<◌, min}
use native.Mathlib.Omega.{arith}
use lib.Arith.{bin_ind, digits_div, digits_mod}
use lib.Bits.{bit_and, differ, and_step, xor_step}
use Rattle.register.specs.Xor.{◌⊕◌}
use Rattle.register.proofs.Xor.{digit_ind, odd_lt, xor_half, xor_odd}

-- ---- one digit

min_lt : (x y : ℕ) → x < 2 → min x y < 2
min_lt x y h = omega arith

min_differ : (x y z : ℕ) → x < 2 → y < 2 → z < 2 → min (differ x y) z ≡ differ (min x z) (min y z)
min_differ x y z hx hy hz =
    digit_ind (λ (z : ℕ). min (differ x y) z ≡ differ (min x z) (min y z))
    (digit_ind (λ (x : ℕ). min (differ x y) 0 ≡ differ (min x 0) (min y 0))
    (digit_ind (λ (y : ℕ). min (differ 0 y) 0 ≡ differ (min 0 0) (min y 0)) refl refl y hy)
    (digit_ind (λ (y : ℕ). min (differ 1 y) 0 ≡ differ (min 1 0) (min y 0)) refl refl y hy) x hx)
    (digit_ind (λ (x : ℕ). min (differ x y) 1 ≡ differ (min x 1) (min y 1))
    (digit_ind (λ (y : ℕ). min (differ 0 y) 1 ≡ differ (min 0 1) (min y 1)) refl refl y hy)
    (digit_ind (λ (y : ℕ). min (differ 1 y) 1 ≡ differ (min 1 1) (min y 1)) refl refl y hy) x hx) z hz

-- ---- halves and lowest digits

pub and_half : (a b : ℕ) → bit_and a b / 2 ≡ bit_and (a / 2) (b / 2)
and_half a b =
    ap (λ (x : ℕ). x / 2) (and_step a b) ∙ digits_div (bit_and (a / 2) (b / 2)) (min_lt (a % 2) (b % 2) (odd_lt a))

pub and_odd : (a b : ℕ) → bit_and a b % 2 ≡ min (a % 2) (b % 2)
and_odd a b =
    ap (λ (x : ℕ). x % 2) (and_step a b) ∙ digits_mod (bit_and (a / 2) (b / 2)) (min_lt (a % 2) (b % 2) (odd_lt a))

-- ---- the law

pub and_xor : (a b m : ℕ) → bit_and (a ⊕ b) m ≡ bit_and a m ⊕ bit_and b m
and_xor a = bin_ind (λ (a : ℕ). (b m : ℕ) → bit_and (a ⊕ b) m ≡ bit_and a m ⊕ bit_and b m) (λ b m. refl) step a
  where
    step : (a : ℕ) → ((b m : ℕ) → bit_and (a / 2 ⊕ b) m ≡ bit_and (a / 2) m ⊕ bit_and b m)
        → (b m : ℕ) → bit_and (a ⊕ b) m ≡ bit_and a m ⊕ bit_and b m
    step a ih b m =
        and_step (a ⊕ b) m
        ∙ ap₂ (λ (x y : ℕ). x * 2 + y)
        (ap (λ (x : ℕ). bit_and x (m / 2)) (xor_half a b)
        ∙ ih (b / 2) (m / 2)
        ∙ sym (ap₂ ◌⊕◌ (and_half a m) (and_half b m)))
        (ap (λ (x : ℕ). min x (m % 2)) (xor_odd a b)
        ∙ min_differ (a % 2) (b % 2) (m % 2) (odd_lt a) (odd_lt b) (odd_lt m)
        ∙ sym (ap₂ differ (and_odd a m) (and_odd b m)))
        ∙ sym (xor_step (bit_and a m) (bit_and b m))
