-- The three exchange steps exchange rows and columns. They are linear, so what they do at each of the 64 places is enough.
-- Assumes nothing.
use mathlib.Core.Path.{◌≡◌, sym, ap, ap₂, ◌∙◌}
use Prim.Native.Nat.{ℕ, ◌+◌, ◌*◌, ◌/◌, ◌%◌, ◌^◌, ◌<◌}
use native.Mathlib.Omega.{arith}
use lib.Bits.{bit_and, xor_shr, xor_mod}
use Rattle.indexed.specs.List.{tabulate}
use Rattle.indexed.proofs.Tabulate.{tabulate_same}
use Rattle.indexed.proofs.Test.{equal, equal₂}
use Rattle.register.specs.Bit.{bit}
use Rattle.register.specs.Xor.{◌⊕◌}
use Rattle.register.proofs.And.{and_xor}
use Rattle.register.proofs.Expand.{bit_of_xor, bits_ext}
use Rattle.register.proofs.Linear.{shl_xor, linear_agree}
use Rattle.register.proofs.Xor.{xor_swap}
use Rattle.rectangular.specs.Group.{column}
use Rattle.group6250.specs.Packed.{byte_at, bytes_of, exchange}
use Rattle.group6250.proofs.Bytes.{bit_byte, byte_lt}
use Rattle.rectangular.proofs.Symmetry.{column_lt, bit_column}

-- the three steps, with the distances and the masks of the code
unfoldable pub exchanges : ℕ → ℕ
exchanges x = exchange 28 4042322160 (exchange 14 225176545447116 (exchange 7 47851476196393130 x))

-- ---- the steps are linear

module _ (s m : ℕ) where
  -- where the marked bits and those above them differ
  marked : ℕ → ℕ
  marked x = bit_and (x ⊕ x / 2 ^ s) m

  moved : ℕ → ℕ
  moved x = marked x * 2 ^ s % 2 ^ 64

  marked_xor : (a b : ℕ) → marked (a ⊕ b) ≡ marked a ⊕ marked b
  unfolding marked
  marked_xor a b =
      ap (λ (x : ℕ). bit_and x m) (ap (λ (x : ℕ). a ⊕ b ⊕ x) (xor_shr a b s) ∙ xor_swap a b (a / 2 ^ s) (b / 2 ^ s))
      ∙ and_xor (a ⊕ a / 2 ^ s) (b ⊕ b / 2 ^ s) m

  moved_xor : (a b : ℕ) → moved (a ⊕ b) ≡ moved a ⊕ moved b
  unfolding moved
  moved_xor a b =
      ap (λ (x : ℕ). x % 2 ^ 64) (ap (λ (x : ℕ). x * 2 ^ s) (marked_xor a b) ∙ shl_xor s (marked a) (marked b))
      ∙ xor_mod (marked a * 2 ^ s) (marked b * 2 ^ s) 64

  exchange_xor : (a b : ℕ) → exchange s m (a ⊕ b) ≡ exchange s m a ⊕ exchange s m b
  unfolding exchange moved marked
  exchange_xor a b =
      ap₂ (λ (x y : ℕ). a ⊕ b ⊕ x ⊕ y) (marked_xor a b) (moved_xor a b)
      ∙ ap (λ (x : ℕ). x ⊕ (moved a ⊕ moved b)) (xor_swap a b (marked a) (marked b))
      ∙ xor_swap (a ⊕ marked a) (b ⊕ marked b) (moved a) (moved b)

exchanges_xor : (a b : ℕ) → exchanges (a ⊕ b) ≡ exchanges a ⊕ exchanges b
unfolding exchanges
exchanges_xor a b =
    ap (λ (x : ℕ). exchange 28 4042322160 (exchange 14 225176545447116 x)) (exchange_xor 7 47851476196393130 a b)
    ∙ ap (exchange 28 4042322160) (exchange_xor 14 225176545447116 _ _)
    ∙ exchange_xor 28 4042322160 _ _

-- ---- at the places: a test of each

-- where the bit at a place goes, and comes from
place : ℕ → ℕ
place n = 8 * (n % 8) + n / 8

exchanges_place : (k : ℕ) → k < 64 → exchanges (2 ^ k) ≡ 2 ^ place k
unfolding exchanges exchange place
exchanges_place = equal 64 (λ k. exchanges (2 ^ k)) (λ k. 2 ^ place k) tt

bit_place : (k n : ℕ) → k < 64 → n < 64 → bit n (2 ^ place k) ≡ bit (place n) (2 ^ k)
unfolding bit place
bit_place = equal₂ 64 64 (λ k n. bit n (2 ^ place k)) (λ k n. bit (place n) (2 ^ k)) tt

-- ---- at every number

exchanges_bit : (x n : ℕ) → x < 2 ^ 64 → n < 64 → bit n (exchanges x) ≡ bit (place n) x
exchanges_bit x n hx hn =
    linear_agree 64 (λ a. bit n (exchanges a)) (bit (place n))
    (λ a b _ _. ap (bit n) (exchanges_xor a b) ∙ bit_of_xor n (exchanges a) (exchanges b))
    (λ a b _ _. bit_of_xor (place n) a b)
    (λ k h. ap (bit n) (exchanges_place k h) ∙ bit_place k n h hn) x hx

place_of : (i r : ℕ) → i < 8 → r < 8 → place (8 * i + r) ≡ 8 * r + i
unfolding place
place_of i r hi hr = omega arith

byte_is_column : (x i : ℕ) → x < 2 ^ 64 → i < 8 → byte_at i (exchanges x) ≡ column 8 (λ j. byte_at j x) i
byte_is_column x i hx hi =
    bits_ext 8 _ _ (byte_lt i (exchanges x)) (column_lt 8 (λ j. byte_at j x) i)
    (λ r h. bit_byte (exchanges x) i r h
    ∙ exchanges_bit x (8 * i + r) hx (omega arith)
    ∙ ap (λ (n : ℕ). bit n x) (place_of i r hi h)
    ∙ sym (bit_byte x r i hi)
    ∙ sym (bit_column 8 (λ j. byte_at j x) r i h))

pub bytes_are_columns : (x : ℕ) → x < 2 ^ 64 → bytes_of (exchanges x) ≡ tabulate 8 (column 8 (λ j. byte_at j x))
unfolding bytes_of
bytes_are_columns x h = tabulate_same 8 _ _ (λ i b. byte_is_column x i h b)
