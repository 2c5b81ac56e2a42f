-- The parts of the generator matrix are the code's: a test of what every bit of an information byte adds to the tracks, and the sum.
-- Assumes nothing.
use mathlib.Core.Path.{◌≡◌, refl, sym, ap, ap₂, ◌∙◌}
use mathlib.Core.List.{List}
use Prim.Native.Nat.{ℕ, zero, suc, ◌+◌, ◌-◌, ◌*◌, ◌/◌, ◌%◌, ◌^◌, ◌<◌}
use native.Mathlib.Numerals.{add-one}
use native.Mathlib.Omega.{arith}
use lib.ListN.{get_or, take}
use lib.Seq.{get_or-take}
use Rattle.indexed.specs.List.{tabulate, tabulate_from}
use Rattle.indexed.proofs.Tabulate.{tabulate_same}
use Rattle.indexed.proofs.Test.{equal₂}
use Rattle.register.specs.Bit.{bit, of_bits}
use Rattle.register.specs.Matrix.{product}
use Rattle.register.specs.Shift.{shift, shifts}
use Rattle.register.specs.Sum.{xor_sum}
use Rattle.register.specs.Xor.{◌⊕◌}
use Rattle.register.proofs.Bit.{bit_lt}
use Rattle.register.proofs.Expand.{bit_of_xor, bit_sum, bits_ext, bit_tabulated}
use Rattle.register.proofs.Linear.{Linear, linear_agree}
use Rattle.register.proofs.Matrix.{product_xor}
use Rattle.register.proofs.Shift.{shifts_xor}
use Rattle.register.proofs.Sum.{sum_ext, sum_one}
use Rattle.generator.specs.Columns.{part}
use Rattle.rectangular.specs.Constants.{feedback}
use Rattle.rectangular.specs.Correction.{error_at}
use Rattle.rectangular.specs.Group.{information, check, character, column}
use Rattle.group6250.specs.Packed.{bytes_of}
use Rattle.group6250.proofs.Bytes.{bit_byte, byte_lt}
use Rattle.rectangular.proofs.Symmetry.{column_lt, bit_column}
use Rattle.rectangular.proofs.Syndrome.{error_here, error_elsewhere, error_lt, error_xor}

-- what B_(i+1) = b adds at place r of track j: to the check byte its power of T, and at its own place itself
added : ℕ → ℕ → ℕ → ℕ → ℕ
added zero i j b = bit j (shifts 8 feedback (suc i) b)
added (suc r) i j b = error_at r (bit j b) i

added_lt : (r i j b : ℕ) → added r i j b < 2
unfolding added
added_lt zero i j b = bit_lt j (shifts 8 feedback (suc i) b)
added_lt (suc r) i j b = error_lt 1 r (bit j b) i (bit_lt j b)

added_xor : (r i j : ℕ) → Linear 8 (added r i j)
unfolding added
added_xor zero i j a b ha hb = ap (bit j) (shifts_xor 8 feedback (suc i) a b (omega arith) ha hb) ∙ bit_of_xor j _ _
added_xor (suc r) i j a b ha hb = ap (λ (e : ℕ). error_at r e i) (bit_of_xor j a b) ∙ error_xor r (bit j a) (bit j b) i

-- a test of every part and place
place_adds : (i k : ℕ) → i < 7 → k < 8 → product (part i) (2 ^ k) ≡ of_bits (tabulate 64 (λ n. added (n % 8) i (n / 8) (2 ^ k)))
unfolding added bit shift shifts error_at of_bits tabulate tabulate_from
place_adds = equal₂ 7 8 (λ i k. product (part i) (2 ^ k)) (λ i k. of_bits (tabulate 64 (λ n. added (n % 8) i (n / 8) (2 ^ k)))) tt

-- so it is of every byte
bit_added : (i b n : ℕ) → i < 7 → b < 256 → n < 64 → bit n (product (part i) b) ≡ added (n % 8) i (n / 8) b
bit_added i b n hi hb hn =
    linear_agree 8 (λ a. bit n (product (part i) a)) (added (n % 8) i (n / 8))
    (λ a c _ _. ap (bit n) (product_xor (part i) a c) ∙ bit_of_xor n _ _) (added_xor (n % 8) i (n / 8))
    (λ k h. ap (bit n) (place_adds i k hi h)
    ∙ bit_tabulated 64 (λ n. added (n % 8) i (n / 8) (2 ^ k)) (λ m. added_lt (m % 8) i (m / 8) (2 ^ k)) n hn) b hb

module _ (info : List ℕ) (bytes : (k : ℕ) → k < 7 → get_or info k 0 < 256) where
  -- the sum of what the seven add
  pub generated : ℕ
  generated = xor_sum 7 (λ i. product (part i) (information 8 info (suc i)))

  -- the sum at place r of track j is bit j of B_r
  place_is : (r j : ℕ) → r < 8 → xor_sum 7 (λ i. added r i j (information 8 info (suc i))) ≡ bit j (character 8 feedback info r)
  unfolding added character check
  place_is zero j h = sym (bit_sum j 7 (λ i. shifts 8 feedback (suc i) (information 8 info (suc i))))
  place_is (suc r) j h =
      sum_one 7 (λ i. error_at r (bit j (information 8 info (suc i))) i) r (omega arith) (λ k _ other. error_elsewhere r _ k other)
      ∙ error_here r (bit j (information 8 info (suc r)))

  bit_generated : (j r : ℕ) → j < 8 → r < 8 → bit (8 * j + r) generated ≡ bit j (character 8 feedback info r)
  unfolding generated information
  bit_generated j r hj hr =
      let low : (8 * j + r) % 8 ≡ r = omega arith in
      let high : (8 * j + r) / 8 ≡ j = omega arith in
      bit_sum (8 * j + r) 7 _
      ∙ sum_ext 7 _ _ (λ i h. bit_added i (information 8 info (suc i)) (8 * j + r) h (bytes (8 - 1 - suc i) (omega arith)) (omega arith)
      ∙ ap₂ (λ (x y : ℕ). added x i y (information 8 info (suc i))) low high)
      ∙ place_is r j hr

  pub generated_is : bytes_of generated ≡ tabulate 8 (column 8 (character 8 feedback info))
  unfolding bytes_of
  generated_is =
      tabulate_same 8 _ _ (λ j h. bits_ext 8 _ _ (byte_lt j generated) (column_lt 8 (character 8 feedback info) j)
      (λ r b. bit_byte generated j r b ∙ bit_generated j r h b ∙ sym (bit_column 8 (character 8 feedback info) r j b)))

-- what the first k look-ups add, of bytes in front
unfoldable pub added_by : List ℕ → ℕ → ℕ
added_by bytes k = xor_sum k (λ i. product (part i) (get_or bytes (6 - i) 0))

pub none_added : (bytes : List ℕ) → 0 ≡ added_by bytes 0
unfolding added_by xor_sum
none_added bytes = refl

pub one_more : (bytes : List ℕ) (k : ℕ) → added_by bytes k ⊕ product (part k) (get_or bytes (6 - k) 0) ≡ added_by bytes (k + 1)
unfolding added_by xor_sum
one_more bytes k = sym (ap (added_by bytes) (add-one k))

pub seven_add : (bytes : List ℕ) → ((k : ℕ) → get_or bytes k 0 < 256)
    → bytes_of (added_by bytes 7) ≡ tabulate 8 (column 8 (character 8 feedback (take 7 bytes)))
unfolding added_by generated information
seven_add bytes are =
    let front_are : (k : ℕ) → k < 7 → get_or (take 7 bytes) k 0 < 256 = λ k h. rw (get_or-take 7 bytes k 0 h) (are k) in
    let place : (i : ℕ) → 8 - 1 - suc i ≡ 6 - i = λ i. omega arith in
    ap bytes_of
    (sum_ext 7 _ _ (λ i h. ap (product (part i))
    (sym (get_or-take 7 bytes (6 - i) 0 (omega arith)) ∙ ap (λ (k : ℕ). get_or (take 7 bytes) k 0) (sym (place i)))))
    ∙ generated_is (take 7 bytes) front_are
