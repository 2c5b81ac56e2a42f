-- Laws of ⊕ that the kit lacks: it is associative, and what is added twice cancels.
-- Assumes nothing.
use mathlib.Core.Path.{◌≡◌, refl, sym, ap, ap₂, ◌∙◌}
use mathlib.Core.Logic.{◌⊎◌, inl, inr}
use Prim.Native.Nat.{ℕ, zero, suc, ◌+◌, ◌*◌, ◌/◌, ◌%◌, ◌<◌}
use native.Mathlib.Nat.{mod-lt, zero-lt-suc, not-suc-le-zero, le_of_suc-le-suc}
use native.Mathlib.Omega.{arith}
use lib.Arith.{bin_ind, digits_div, digits_mod}
use lib.Bits.{differ, xor_step, xor_comm, xor_self, xor_zero_r}
use Rattle.register.specs.Xor.{◌⊕◌}

-- ---- one digit

pub digit : (n : ℕ) → n < 2 → (n ≡ 0) ⊎ (n ≡ 1)
digit zero h = inl refl
digit (suc zero) h = inr refl
digit (suc (suc n)) h = absurd (not-suc-le-zero (le_of_suc-le-suc (le_of_suc-le-suc h)))

-- what holds of 0 and of 1 holds of every digit
pub digit_ind {ℓ} : (P : ℕ → Type ℓ) → P 0 → P 1 → (n : ℕ) → n < 2 → P n
digit_ind P p q zero h = p
digit_ind P p q (suc zero) h = q
digit_ind P p q (suc (suc n)) h = absurd (not-suc-le-zero (le_of_suc-le-suc (le_of_suc-le-suc h)))

pub odd_lt : (n : ℕ) → n % 2 < 2
odd_lt n = mod-lt n (zero-lt-suc 1)

pub differ_lt : (x y : ℕ) → x < 2 → y < 2 → differ x y < 2
differ_lt x y hx hy =
    digit_ind (λ (x : ℕ). differ x y < 2) hy
    (digit_ind (λ (y : ℕ). differ 1 y < 2) (omega arith) (omega arith) y hy) x hx

pub differ_assoc : (x y z : ℕ) → x < 2 → y < 2 → z < 2 → differ (differ x y) z ≡ differ x (differ y z)
differ_assoc x y z hx hy hz =
    digit_ind (λ (x : ℕ). differ (differ x y) z ≡ differ x (differ y z)) refl
    (digit_ind (λ (y : ℕ). differ (differ 1 y) z ≡ differ 1 (differ y z)) refl
    (digit_ind (λ (z : ℕ). differ (differ 1 1) z ≡ differ 1 (differ 1 z)) refl refl z hz) y hy) x hx

-- ---- halves and lowest digits of a sum

pub xor_half : (a b : ℕ) → (a ⊕ b) / 2 ≡ a / 2 ⊕ b / 2
xor_half a b =
    ap (λ (x : ℕ). x / 2) (xor_step a b)
    ∙ digits_div (a / 2 ⊕ b / 2) (differ_lt (a % 2) (b % 2) (odd_lt a) (odd_lt b))

pub xor_odd : (a b : ℕ) → (a ⊕ b) % 2 ≡ differ (a % 2) (b % 2)
xor_odd a b =
    ap (λ (x : ℕ). x % 2) (xor_step a b)
    ∙ digits_mod (a / 2 ⊕ b / 2) (differ_lt (a % 2) (b % 2) (odd_lt a) (odd_lt b))

-- ---- the laws

pub xor_assoc : (a b c : ℕ) → a ⊕ b ⊕ c ≡ a ⊕ (b ⊕ c)
xor_assoc a = bin_ind (λ (a : ℕ). (b c : ℕ) → a ⊕ b ⊕ c ≡ a ⊕ (b ⊕ c)) (λ b c. refl) step a
  where
    step : (a : ℕ) → ((b c : ℕ) → a / 2 ⊕ b ⊕ c ≡ a / 2 ⊕ (b ⊕ c)) → (b c : ℕ) → a ⊕ b ⊕ c ≡ a ⊕ (b ⊕ c)
    step a ih b c =
        xor_step (a ⊕ b) c
        ∙ ap₂ (λ (x y : ℕ). x * 2 + y)
        (ap (λ (x : ℕ). x ⊕ c / 2) (xor_half a b) ∙ ih (b / 2) (c / 2) ∙ ap (λ (x : ℕ). a / 2 ⊕ x) (sym (xor_half b c)))
        (ap (λ (x : ℕ). differ x (c % 2)) (xor_odd a b)
        ∙ differ_assoc (a % 2) (b % 2) (c % 2) (odd_lt a) (odd_lt b) (odd_lt c)
        ∙ ap (λ (x : ℕ). differ (a % 2) x) (sym (xor_odd b c)))
        ∙ sym (xor_step a (b ⊕ c))

pub xor_left_comm : (a b c : ℕ) → a ⊕ (b ⊕ c) ≡ b ⊕ (a ⊕ c)
xor_left_comm a b c = sym (xor_assoc a b c) ∙ ap (λ (x : ℕ). x ⊕ c) (xor_comm a b) ∙ xor_assoc b a c

pub xor_cancel : (a b : ℕ) → a ⊕ (a ⊕ b) ≡ b
xor_cancel a b = sym (xor_assoc a a b) ∙ ap (λ (x : ℕ). x ⊕ b) (xor_self a)

-- two numbers whose sum is zero are equal
pub xor_zero→eq : (a b : ℕ) → a ⊕ b ≡ 0 → a ≡ b
xor_zero→eq a b e = sym (xor_zero_r a) ∙ ap (λ (x : ℕ). a ⊕ x) (sym e) ∙ xor_cancel a b

-- a sum of sums, regrouped
pub xor_swap : (a b c d : ℕ) → (a ⊕ b) ⊕ (c ⊕ d) ≡ (a ⊕ c) ⊕ (b ⊕ d)
xor_swap a b c d =
    xor_assoc a b (c ⊕ d) ∙ ap (λ (x : ℕ). a ⊕ x) (xor_left_comm b c d) ∙ sym (xor_assoc a c (b ⊕ d))
