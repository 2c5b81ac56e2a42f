-- How many of the groups' bits stand, byte by byte.
-- Assumes nothing.
use Prim.Native.Nat.{ℕ, zero, suc, ◌+◌, ◌*◌, ◌/◌, ◌%◌, ◌^◌, ◌<◌, ◌≤◌}
use mathlib.Core.Path.{◌≡◌, refl, sym, ap, ◌∙◌}
use mathlib.Core.List.{List}
use native.Mathlib.Nat.{mod-lt, mod-eq_of_lt}
use native.Mathlib.Numerals.{add-one}
use native.Mathlib.Omega.{arith}
use lib.Count.{ones}
use lib.ListN.{length, get_or, take}
use lib.Pow.{pow_pos}
use Rattle.std.specs.Prelude.{sum_by}
use Rattle.std.proofs.lemmas.List.Sums.{sum_by_more}
use Rattle.indexed.specs.List.{total}
use Rattle.indexed.proofs.Tabulate.{tabulate_same}
use Rattle.indexed.proofs.Total.{total_same, total_split}
use Rattle.register.specs.Bit.{bit, bits_of, of_bits}
use Rattle.register.proofs.Bit.{bit_lt, bit_mod, of_bits_bits_of}
use Rattle.register.proofs.Ones.{ones_of_bits}
use Rattle.sense_log.specs.Back.{group_bit, standing_bits}
use Rattle.sense_log.proofs.Bits.{group_bit_in}

-- the lowest bits of a number, summed
lowest_bits : (w a : ℕ) → total w (λ k. bit k a) ≡ ones (a % 2 ^ w)
unfolding bits_of
lowest_bits w a =
    sym (ones_of_bits w (λ k. bit k a) (λ k h. bit_lt k a))
    ∙ ap (λ (l : List ℕ). ones (of_bits l)) (tabulate_same w (λ k. bit k a) (λ k. bit k (a % 2 ^ w)) (λ k h. sym (bit_mod k w a h)))
    ∙ ap ones (of_bits_bits_of w (a % 2 ^ w) (mod-lt a (pow_pos w)))

-- ---- the bits of a log

module _ (log : List ℕ) where
  -- the first groups of byte b more
  pub standing_part : (b bits : ℕ) → bits ≤ 8 → standing_bits log (8 * b + bits) ≡ standing_bits log (8 * b) + ones (get_or log b 0 % 2 ^ bits)
  unfolding standing_bits
  standing_part b bits h =
      total_split (8 * b) bits (group_bit log)
      ∙ ap (λ (x : ℕ). total (8 * b) (group_bit log) + x)
      (total_same bits (λ k. group_bit log (8 * b + k)) (λ k. bit k (get_or log b 0)) (λ k u. group_bit_in log b k (omega arith))
      ∙ lowest_bits bits (get_or log b 0))

  -- all of them
  pub standing_byte : (b : ℕ) → get_or log b 0 < 2 ^ 8 → standing_bits log (8 * (b + 1)) ≡ standing_bits log (8 * b) + ones (get_or log b 0)
  standing_byte b h =
      let next : 8 * (b + 1) ≡ 8 * b + 8 = omega arith in
      ap (standing_bits log) next
      ∙ standing_part b 8 (omega arith)
      ∙ ap (λ (x : ℕ). standing_bits log (8 * b) + ones x) (mod-eq_of_lt h)

  -- those of the first bytes
  pub standing_bytes : ((k : ℕ) → get_or log k 0 < 2 ^ 8) → (b : ℕ) → b ≤ length log → sum_by ones (take b log) ≡ standing_bits log (8 * b)
  unfolding standing_bits total
  standing_bytes fits zero h = refl
  standing_bytes fits (suc b) h =
      ap (λ (n : ℕ). sum_by ones (take n log)) (sym (add-one b))
      ∙ sum_by_more ones log b 0 (omega arith)
      ∙ ap (λ (n : ℕ). n + ones (get_or log b 0)) (standing_bytes fits b (omega arith))
      ∙ sym (standing_byte b (fits b))
      ∙ ap (λ (n : ℕ). standing_bits log (8 * n)) (add-one b)

  -- the whole bytes, and the groups of the last one
  pub standing_last : (groups : ℕ) → standing_bits log groups ≡ standing_bits log (8 * (groups / 8)) + ones (get_or log (groups / 8) 0 % 2 ^ (groups % 8))
  standing_last groups =
      let all : groups ≡ 8 * (groups / 8) + groups % 8 = omega arith in
      ap (standing_bits log) all ∙ standing_part (groups / 8) (groups % 8) (omega arith)
