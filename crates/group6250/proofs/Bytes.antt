-- A number of 64 bits and its eight bytes.
-- Assumes nothing.
use mathlib.Core.Path.{◌≡◌, sym, ap, ◌∙◌}
use mathlib.Core.List.{List}
use Prim.Native.Nat.{ℕ, ◌+◌, ◌*◌, ◌/◌, ◌^◌, ◌<◌}
use native.Mathlib.Nat.{mod-lt, zero-lt-suc}
use lib.ListN.{get_or}
use Rattle.indexed.specs.List.{tabulate}
use Rattle.indexed.proofs.Tabulate.{get_d_tabulate}
use Rattle.register.specs.Bit.{bit}
use Rattle.register.proofs.Bit.{bit_shr, bit_mod}
use Rattle.group6250.specs.Packed.{byte_at, bytes_of}

pub bit_byte : (x j r : ℕ) → r < 8 → bit r (byte_at j x) ≡ bit (8 * j + r) x
unfolding byte_at
bit_byte x j r h = bit_mod r 8 (x / 2 ^ (8 * j)) h ∙ bit_shr r (8 * j) x

pub byte_lt : (j x : ℕ) → byte_at j x < 256
unfolding byte_at
byte_lt j x = mod-lt (x / 2 ^ (8 * j)) (zero-lt-suc 255)

pub byte_of : (x : ℕ) (f : ℕ → ℕ) → bytes_of x ≡ tabulate 8 f → (k : ℕ) → k < 8 → byte_at k x ≡ f k
unfolding bytes_of
byte_of x f e k h =
    sym (get_d_tabulate 8 (λ j. byte_at j x) k 0 h)
    ∙ ap (λ (l : List ℕ). get_or l k 0) e
    ∙ get_d_tabulate 8 f k 0 h
