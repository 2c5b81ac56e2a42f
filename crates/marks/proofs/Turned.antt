-- A word's bits the other way round, one bit more at a time.
-- Assumes nothing.
use Prim.Native.Nat.{ℕ, zero, suc, ◌+◌, ◌-◌, ◌*◌, ◌^◌, ◌<◌}
use mathlib.Core.Path.{◌≡◌, ap, ap₂, ◌∙◌}
use mathlib.Core.List.{List}
use native.Mathlib.Nat.{pow-succ'}
use native.Mathlib.Omega.{arith}
use lib.Dec.{leb, leb→le}
use Rattle.indexed.specs.List.{tabulate, tabulate_from}
use Rattle.indexed.proofs.Tabulate.{tabulate_suc, tabulate_same}
use Rattle.indexed.proofs.Test.{tested}
use Rattle.register.specs.Bit.{bit, of_bits}
use Rattle.register.proofs.Bit.{bit_lt}
use Rattle.group_code.specs.Word.{mirrored}

pub mirrored_more : (k a : ℕ) → mirrored (suc k) a ≡ 2 * mirrored k a + bit k a
unfolding mirrored of_bits
mirrored_more k a =
    let highest : suc k - 1 - 0 ≡ k = omega arith in
    let rest = tabulate_same k (λ j. bit (suc k - 1 - suc j) a) (λ j. bit (k - 1 - j) a) (λ j h. lower j) in
    let turned = ap of_bits (tabulate_suc k (λ j. bit (suc k - 1 - j) a)) in
    let parts = ap₂ (λ (b : ℕ) (l : List ℕ). b + 2 * of_bits l) (ap (λ (j : ℕ). bit j a) highest) rest in
    omega (arith, turned ∙ parts)
  where
    lower : (j : ℕ) → bit (suc k - 1 - suc j) a ≡ bit (k - 1 - j) a
    lower j = let same : suc k - 1 - suc j ≡ k - 1 - j = omega arith in ap (λ (i : ℕ). bit i a) same

mirrored_lt : (k a : ℕ) → mirrored k a < 2 ^ k
unfolding mirrored of_bits tabulate tabulate_from
mirrored_lt zero a = leb→le 1 1 tt
mirrored_lt (suc k) a =
    rw (mirrored_more k a) (omega (arith, mirrored_lt k a, bit_lt k a, pow-succ' 2 k))

-- ten bits or fewer, turned, are below 1,024
pub mirrored_small : (k a : ℕ) → k < 10 → mirrored k a < 512
mirrored_small k a h = omega (arith, mirrored_lt k a, leb→le (2 ^ k) 512 (tested 10 (λ j. leb (2 ^ j) 512) tt k h))
