-- Bytes packed in one number, and bits gathered in one, as a loop adds them up.
-- Assumes nothing.
use mathlib.Core.Path.{◌≡◌, sym, ap, ◌∙◌}
use mathlib.Core.List.{List, [], ◌∷◌, ◌++◌}
use Prim.Native.Nat.{ℕ, zero, suc, ◌+◌, ◌-◌, ◌*◌, ◌/◌, ◌%◌, ◌^◌, ◌<◌}
use native.Mathlib.Decide.{dec_lt}
use native.Mathlib.Nat.{add_comm, mul_assoc, not-suc-le-zero, le_refl, add-mul-div_right, add-mul-mod_self_right, mod-eq_of_lt, pow-suc}
use native.Mathlib.Omega.{arith}
use lib.Arith.{digits_lt}
use lib.ListN.{length}
use lib.Pow.{pow_pos, pow-add, high}
use Rattle.indexed.specs.List.{tabulate}
use Rattle.indexed.proofs.Tabulate.{length_tabulate, tabulate_last}
use Rattle.register.specs.Bit.{of_bits}
use Rattle.group6250.specs.Packed.{byte_at}

-- numbers of s bits in one, number i in bits s i to s i + s - 1
unfoldable pub packed : ℕ → ℕ → (ℕ → ℕ) → ℕ
packed s zero v = zero
packed s (suc n) v = packed s n v + v n * 2 ^ (s * n)

module _ (v : ℕ → ℕ) where
  pub packed_lt : (n : ℕ) → ((i : ℕ) → i < n → v i < 256) → packed 8 n v < 2 ^ (8 * n)
  unfolding packed
  packed_lt zero h = pow_pos 0
  packed_lt (suc n) h =
      let wide : 8 * suc n ≡ 8 + 8 * n = omega arith in
      rw (wide, pow-add 2 8 (8 * n), add_comm (packed 8 n v) (v n * 2 ^ (8 * n)))
      (digits_lt (h n (le_refl (suc n))) (packed_lt n (λ i b. h i (omega arith))))

  pub byte_packed : (n j : ℕ) → ((i : ℕ) → i < n → v i < 256) → j < n → byte_at j (packed 8 n v) ≡ v j
  unfolding packed byte_at
  byte_packed zero j h b = absurd (not-suc-le-zero b)
  byte_packed (suc n) j h b = by (dec_lt j n) (byte_packed n j (λ i q. h i (omega arith)))
    where
      by : Dec (j < n) → (j < n → byte_at j (packed 8 n v) ≡ v j) → (packed 8 n v + v n * 2 ^ (8 * n)) / 2 ^ (8 * j) % 256 ≡ v j
      by (yes q) ih =
          let wide : 8 * n ≡ 8 * (n - 1 - j) + (8 + 8 * j) = omega arith in
          let above : ℕ = v n * 2 ^ (8 * (n - 1 - j)) in
          let split : v n * 2 ^ (8 * n) ≡ above * 256 * 2 ^ (8 * j) =
          ap (λ (m : ℕ). v n * 2 ^ m) wide
          ∙ ap (λ (p : ℕ). v n * p) (pow-add 2 (8 * (n - 1 - j)) (8 + 8 * j))
          ∙ ap (λ (p : ℕ). v n * (2 ^ (8 * (n - 1 - j)) * p)) (pow-add 2 8 (8 * j))
          ∙ sym (mul_assoc (v n) (2 ^ (8 * (n - 1 - j))) (256 * 2 ^ (8 * j)))
          ∙ sym (mul_assoc above 256 (2 ^ (8 * j))) in
          ap (λ (x : ℕ). (packed 8 n v + x) / 2 ^ (8 * j) % 256) split
          ∙ ap (λ (x : ℕ). x % 256) (add-mul-div_right (packed 8 n v) (above * 256) (pow_pos (8 * j)))
          ∙ add-mul-mod_self_right (packed 8 n v / 2 ^ (8 * j)) above 256
          ∙ ih q
      by (no q) ih =
          let e : j ≡ n = omega arith in
          ap (λ (i : ℕ). (packed 8 n v + v n * 2 ^ (8 * n)) / 2 ^ (8 * i) % 256) e
          ∙ ap (λ (x : ℕ). x / 2 ^ (8 * n) % 256) (add_comm (packed 8 n v) (v n * 2 ^ (8 * n)))
          ∙ ap (λ (x : ℕ). x % 256) (high (v n) (8 * n) (packed_lt n (λ i c. h i (omega arith))))
          ∙ mod-eq_of_lt (h n (le_refl (suc n)))
          ∙ ap v (sym e)

-- one bit more
of_bits_last : (l : List ℕ) (x : ℕ) → of_bits (l ++ (x ∷ [])) ≡ of_bits l + x * 2 ^ length l
unfolding of_bits
of_bits_last [] x = omega arith
of_bits_last (b ∷ bs) x =
    let twice : x * 2 ^ suc (length bs) ≡ x * 2 ^ length bs * 2 =
    ap (λ (p : ℕ). x * p) (pow-suc 2 (length bs)) ∙ sym (mul_assoc x (2 ^ length bs) 2) in
    omega (arith, of_bits_last bs x)

pub bits_more : (n : ℕ) (f : ℕ → ℕ) → of_bits (tabulate (suc n) f) ≡ of_bits (tabulate n f) + f n * 2 ^ n
bits_more n f =
    ap of_bits (tabulate_last n f)
    ∙ of_bits_last (tabulate n f) (f n)
    ∙ ap (λ (k : ℕ). of_bits (tabulate n f) + f n * 2 ^ k) (length_tabulate n f)
