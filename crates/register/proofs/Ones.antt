-- The number whose bits a table gives: its bits, its bound, and how many of them are set; and the bits of an `or`.
-- Assumes nothing.
use mathlib.Core.Path.{◌≡◌, refl, sym, ap, ap₂, ◌∙◌}
use mathlib.Core.List.{List}
use Prim.Native.Nat.{ℕ, zero, suc, ◌+◌, ◌*◌, ◌/◌, ◌%◌, ◌^◌, ◌<◌, suc-le-suc}
use native.Mathlib.Nat.{zero-lt-suc}
use native.Mathlib.Decide.{dec_lt}
use native.Mathlib.Omega.{arith}
use lib.Bits.{bit_or, or_shr, or_mod}
use lib.Count.{ones, ones_step}
use lib.ListN.{get_or, get_or-eq_default}
use Rattle.indexed.specs.List.{tabulate, tabulate_from, total}
use Rattle.indexed.proofs.Tabulate.{length_tabulate, get_d_tabulate, tabulate_suc}
use Rattle.indexed.proofs.Total.{total_first}
use Rattle.register.specs.Bit.{bit, of_bits}
use Rattle.register.proofs.Bit.{Digits, of_bits_lt}
use Rattle.register.proofs.Expand.{bit_of_bits}

pub bit_of_or : (k a b : ℕ) → bit k (bit_or a b) ≡ bit_or (bit k a) (bit k b)
unfolding bit
bit_of_or k a b = ap (λ (x : ℕ). x % 2) (or_shr a b k) ∙ or_mod (a / 2 ^ k) (b / 2 ^ k) 1

pub ones_of_bits : (n : ℕ) (f : ℕ → ℕ) → ((k : ℕ) → k < n → f k < 2) → ones (of_bits (tabulate n f)) ≡ total n f
unfolding ones of_bits tabulate tabulate_from total
ones_of_bits zero f h = refl
ones_of_bits (suc n) f h =
    let rest : ℕ = of_bits (tabulate n (λ k. f (suc k))) in
    let low : (f 0 + 2 * rest) % 2 ≡ f 0 = omega (arith, h 0 (zero-lt-suc n)) in
    let high : (f 0 + 2 * rest) / 2 ≡ rest = omega (arith, h 0 (zero-lt-suc n)) in
    ap (λ (l : List ℕ). ones (of_bits l)) (tabulate_suc n f)
    ∙ ones_step (f 0 + 2 * rest)
    ∙ ap₂ (λ (x y : ℕ). x + ones y) low high
    ∙ ap (λ (x : ℕ). f 0 + x) (ones_of_bits n (λ k. f (suc k)) (λ k b. h (suc k) (suc-le-suc b)))
    ∙ sym (total_first n f)

module _ (n : ℕ) (f : ℕ → ℕ) (h : (k : ℕ) → k < n → f k < 2) where
  digits : Digits (tabulate n f)
  digits k = by (dec_lt k n)
    where
      by : Dec (k < n) → get_or (tabulate n f) k 0 < 2
      by (yes b) = rw (get_d_tabulate n f k 0 b) (h k b)
      by (no b) = rw (get_or-eq_default (tabulate n f) 0 {n = k} (omega (arith, length_tabulate n f))) (zero-lt-suc 1)

  pub bit_of_tabulate : (k : ℕ) → k < n → bit k (of_bits (tabulate n f)) ≡ f k
  bit_of_tabulate k b =
      bit_of_bits k (tabulate n f) (omega (arith, length_tabulate n f)) digits ∙ get_d_tabulate n f k 0 b

  pub tabulated_lt : of_bits (tabulate n f) < 2 ^ n
  tabulated_lt = rw (length_tabulate n f) at (of_bits_lt (tabulate n f) digits)
