-- A matrix in a number times a byte: masks pick its columns, and a linear function is the matrix of its values at the places.
-- Assumes nothing.
use mathlib.Core.Path.{◌≡◌, sym, ap, ◌∙◌}
use Prim.Native.Nat.{ℕ, suc, ◌+◌, ◌-◌, ◌*◌, ◌/◌, ◌%◌, ◌^◌, ◌<◌, ◌≤◌}
use native.Mathlib.Nat.{mod-eq_of_lt, zero-mul, one-mul}
use native.Mathlib.Omega.{arith}
use lib.Bits.{bit_and, and_comm, and_mask, and_shr, and_mod}
use Rattle.indexed.specs.List.{tabulate}
use lib.Dec.{ltb, ltb→lt}
use lib.ListN.{get_or}
use Rattle.indexed.proofs.Tabulate.{tabulate_same}
use Rattle.indexed.proofs.Test.{tested, equal₂}
use Rattle.register.specs.Bit.{bit}
use Rattle.register.specs.Shift.{shift, shifts}
use Rattle.register.specs.Sum.{xor_sum}
use Rattle.register.proofs.Bit.{bit_lt}
use Rattle.register.proofs.Linear.{Linear, linear_expanded}
use Rattle.register.proofs.Shift.{shifts_xor}
use Rattle.register.proofs.Sum.{sum_ext, sum_xor}
use Rattle.register.proofs.Xor.{digit_ind}
use Rattle.rectangular.specs.Constants.{feedback, exponent}
use Rattle.rectangular.specs.Syndrome.{erasure}
use Rattle.group6250.specs.Packed.{byte_at, bytes_of, parity_byte}
use Rattle.products.specs.Product.{product_of}
use Rattle.products.specs.declared.product.TheConstants.{INVERSES}
use Rattle.group6250.proofs.Bytes.{byte_lt, byte_of}

-- ---- masks

-- the steps of the code: each bit alone in a byte, made the highest there, and a mask. Tests of every byte.
unfoldable pub alone : ℕ → ℕ
alone x = bit_and (x * 72340172838076673) 9241421688590303745

unfoldable pub highest : ℕ → ℕ
highest x = bit_and (alone x + 18120434683510399) 9259542123273814144

pub alone_fits : (x : ℕ) → x < 256 → alone x + 18120434683510399 < 2 ^ 64
unfolding alone
alone_fits x h = ltb→lt _ _ (tested 256 (λ x. ltb (alone x + 18120434683510399) (2 ^ 64)) tt x h)

pub masks_fit : (x : ℕ) → x < 256 → highest x / 2 ^ 7 * 255 < 2 ^ 64
unfolding highest alone
masks_fit x h = ltb→lt _ _ (tested 256 (λ x. ltb (highest x / 2 ^ 7 * 255) (2 ^ 64)) tt x h)

mask_byte : (x k : ℕ) → x < 256 → k < 8 → byte_at k (highest x / 2 ^ 7 * 255) ≡ bit k x * 255
unfolding byte_at bit highest alone
mask_byte = equal₂ 256 8 (λ x k. byte_at k (highest x / 2 ^ 7 * 255)) (λ x k. bit k x * 255) tt

and_byte : (k a b : ℕ) → byte_at k (bit_and a b) ≡ bit_and (byte_at k a) (byte_at k b)
unfolding byte_at
and_byte k a b =
    ap (λ (x : ℕ). x % 256) (and_shr a b (8 * k)) ∙ and_mod (a / 2 ^ (8 * k)) (b / 2 ^ (8 * k)) 8

-- a mask of a whole byte, or of nothing
masked : (d b : ℕ) → d < 2 → b < 256 → bit_and (d * 255) b ≡ d * b
masked d b hd hb =
    digit_ind (λ (d : ℕ). bit_and (d * 255) b ≡ d * b) (sym (zero-mul b))
    (and_comm 255 b ∙ and_mask b 8 ∙ mod-eq_of_lt hb ∙ sym (one-mul b)) d hd

pub masks_pick : (columns x : ℕ) → x < 256 → parity_byte (bit_and (highest x / 2 ^ 7 * 255) columns) ≡ product_of columns x
unfolding parity_byte product_of
masks_pick columns x h =
    sum_ext 8 _ _
    (λ k b. and_byte k (highest x / 2 ^ 7 * 255) columns
    ∙ ap (λ (m : ℕ). bit_and m (byte_at k columns)) (mask_byte x k h b)
    ∙ masked (bit k x) (byte_at k columns) (bit_lt k x) (byte_lt k columns))

-- ---- a linear function as a matrix

pub product_linear : (F : ℕ → ℕ) → Linear 8 F → (columns : ℕ) → bytes_of columns ≡ tabulate 8 (λ k. F (2 ^ k))
    → (x : ℕ) → x < 256 → product_of columns x ≡ F x
unfolding product_of
product_linear F linear columns e x h =
    sum_ext 8 _ _ (λ k b. ap (λ (c : ℕ). bit k x * c) (byte_of columns (λ k. F (2 ^ k)) e k b))
    ∙ sym (linear_expanded 8 F linear x h)

pub erasure_linear : (w f n d : ℕ) → f < 2 ^ w → Linear w (erasure w f n d)
unfolding erasure
erasure_linear w f n d hf a b ha hb =
    sum_ext (n / 2) _ _ (λ k _. shifts_xor w f (d * (2 * k + 1)) a b hf ha hb)
    ∙ sum_xor (n / 2) (λ k. shifts w f (d * (2 * k + 1)) a) (λ k. shifts w f (d * (2 * k + 1)) b)

-- ---- the inverses of I + T^d: a test of every column of seven

inverse_column : (k j : ℕ) → k < 7 → j < 8 → byte_at j (get_or INVERSES k 0) ≡ erasure 8 feedback exponent (suc k) (2 ^ j)
unfolding byte_at erasure xor_sum shift shifts
inverse_column = equal₂ 7 8 (λ k j. byte_at j (get_or INVERSES k 0)) (λ k j. erasure 8 feedback exponent (suc k) (2 ^ j)) tt

pub inverses : (d : ℕ) → 1 ≤ d → d ≤ 7 → bytes_of (get_or INVERSES (d - 1) 0) ≡ tabulate 8 (λ j. erasure 8 feedback exponent d (2 ^ j))
unfolding bytes_of
inverses d low high =
    let same : suc (d - 1) ≡ d = omega arith in
    tabulate_same 8 _ _ (λ j h. inverse_column (d - 1) j (omega arith) h ∙ ap (λ (d : ℕ). erasure 8 feedback exponent d (2 ^ j)) same)
