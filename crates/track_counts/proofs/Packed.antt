-- Five numbers held in one, twelve bits for each: they are added at once, and each comes out again if it has twelve bits.
-- Assumes nothing.
use mathlib.Core.Path.{◌≡◌, refl, sym, ap, ap₂, ◌∙◌}
use mathlib.Core.List.{List, [], ◌∷◌, ◌++◌}
use Prim.Native.Nat.{ℕ, ◌+◌, ◌*◌, ◌/◌, ◌%◌, ◌^◌, ◌<◌}
use native.Mathlib.Nat.{div-one, zero-add}
use native.Mathlib.Omega.{arith}
use lib.ListN.{take}
use lib.Pow.{shr-shr}
use Rattle.indexed.specs.List.{tabulate, tabulate_from, total}
use Rattle.indexed.proofs.Total.{total_split}
use Rattle.rectangular.specs.Constants.{tracks}
use Rattle.register.specs.Bit.{bit}
use Rattle.register.proofs.Bit.{bit_lt, bit_shr, bit_mod}
use Rattle.track_counts.specs.Counts.{fields, counts_told, packed, Holds, HasRoom}
use Rattle.track_counts.specs.declared.Counts.{Counts}

-- the same numbers, held the same
packed_same : (f g : ℕ → ℕ) → ((k : ℕ) → k < 5 → f k ≡ g k) → packed f ≡ packed g
packed_same f g e =
    omega (arith, e 0 (omega arith), e 1 (omega arith), e 2 (omega arith), e 3 (omega arith), e 4 (omega arith))

-- five bits of a map more, from a track on
pub packed_more : (f : ℕ → ℕ) (first map bits : ℕ) → bits ≡ map / 2 ^ first % 32
    → packed f + packed (λ k. bit k bits) ≡ packed (λ k. f k + bit (first + k) map)
packed_more f first map bits e =
    let five : packed (λ k. bit k bits) ≡ packed (λ k. bit (first + k) map) =
    ap (λ (x : ℕ). packed (λ k. bit k x)) e ∙ packed_same _ _ (λ k h. bit_mod k 5 (map / 2 ^ first) h ∙ bit_shr k first map) in
    omega arith

-- what five numbers leave is their sum
packed_sum : (f : ℕ → ℕ) → total 5 f < 4095 → packed f % 4095 ≡ total 5 f
unfolding total
packed_sum f few =
    let sum : packed f ≡ total 5 f + 4095 * (f 1 + 4097 * f 2 + 16781313 * f 3 + 68736258049 * f 4) = omega arith in
    ap (λ (x : ℕ). x % 4095) sum ∙ omega arith

pub sums_told : (f : ℕ → ℕ) → total 5 f < 4095 → total 5 (λ k. f (5 + k)) < 4095 → packed f % 4095 + packed (λ k. f (5 + k)) % 4095 ≡ total 10 f
sums_told f low high = ap₂ ◌+◌ (packed_sum f low) (packed_sum (λ k. f (5 + k)) high) ∙ sym (total_split 5 5 f)

-- ---- each of five comes out again

module _ (f : ℕ → ℕ) (few : (k : ℕ) → f k < 4096) where
  behind1 : packed f / 0x1000 ≡ f 1 + 4096 * (f 2 + 4096 * (f 3 + 4096 * f 4))
  behind1 = omega (arith, few 0)

  behind2 : packed f / 0x1000000 ≡ f 2 + 4096 * (f 3 + 4096 * f 4)
  behind2 = sym (shr-shr (packed f) 12 12) ∙ ap (λ (x : ℕ). x / 4096) behind1 ∙ omega (arith, few 1)

  behind3 : packed f / 0x1000000000 ≡ f 3 + 4096 * f 4
  behind3 = sym (shr-shr (packed f) 24 12) ∙ ap (λ (x : ℕ). x / 4096) behind2 ∙ omega (arith, few 2)

  behind4 : packed f / 0x1000000000000 ≡ f 4
  behind4 = sym (shr-shr (packed f) 36 12) ∙ ap (λ (x : ℕ). x / 4096) behind3 ∙ omega (arith, few 3)

  five_out : fields (packed f) ≡ f 0 ∷ f 1 ∷ f 2 ∷ f 3 ∷ f 4 ∷ []
  five_out =
      let lowest : (x : ℕ) → ℕ = λ x. x % 4096 in
      let out0 : packed f % 4096 ≡ f 0 = omega (arith, few 0) in
      let out1 : packed f / 0x1000 % 4096 ≡ f 1 = ap lowest behind1 ∙ omega (arith, few 1) in
      let out2 : packed f / 0x1000000 % 4096 ≡ f 2 = ap lowest behind2 ∙ omega (arith, few 2) in
      let out3 : packed f / 0x1000000000 % 4096 ≡ f 3 = ap lowest behind3 ∙ omega (arith, few 3) in
      let out4 : packed f / 0x1000000000000 % 4096 ≡ f 4 = ap lowest behind4 ∙ omega (arith, few 4) in
      cc

-- ---- of counts

module _ (c : Counts) (f : ℕ → ℕ) (holds : Holds c f) (few : (k : ℕ) → f k < 4096) where
  -- what they hold is told, and one more has room
  pub holds_told : counts_told c ≡ tabulate tracks f
  unfolding tabulate tabulate_from
  holds_told =
      ap₂ (λ (low high : List ℕ). low ++ take 4 high) (ap fields holds.lower ∙ five_out f few)
      (ap fields holds.upper ∙ five_out (λ k. f (5 + k)) (λ k. few (5 + k)))

  pub holds_room : HasRoom c
  holds_room = record {
    lower = omega (arith, holds.lower, few 0, few 1, few 2, few 3, few 4);
    upper = omega (arith, holds.upper, few 5, few 6, few 7, few 8, few 9);
  }

-- the same numbers, held the same
pub holds_same : (c : Counts) (f g : ℕ → ℕ) → ((k : ℕ) → f k ≡ g k) → Holds c f → Holds c g
holds_same c f g e holds = record {
  lower = holds.lower ∙ packed_same f g (λ k h. e k);
  upper = holds.upper ∙ packed_same (λ k. f (5 + k)) (λ k. g (5 + k)) (λ k h. e (5 + k));
}

-- the tracks of a map more
pub holds_more : (c : Counts) (f : ℕ → ℕ) (map low high : ℕ) → Holds c f → low ≡ packed (λ k. bit k (map % 32)) → high ≡ packed (λ k. bit k (map / 32 % 32))
    → (c.low + low ≡ packed (λ k. f k + bit k map)) × (c.high + high ≡ packed (λ k. f (5 + k) + bit (5 + k) map))
holds_more c f map low high holds is-low is-high = (
  ap₂ ◌+◌ holds.lower is-low
      ∙ packed_more f 0 map (map % 32) (ap (λ (x : ℕ). x % 32) (sym (div-one map)))
      ∙ packed_same _ _ (λ k h. ap (λ (n : ℕ). f k + bit n map) (zero-add k)),
  ap₂ ◌+◌ holds.upper is-high ∙ packed_more (λ k. f (5 + k)) 5 map (map / 32 % 32) refl,
)

-- and there is room for it
pub room_for_bits : (x bits : ℕ) → x < 2 ^ 63 → x + packed (λ k. bit k bits) < 2 ^ 64
room_for_bits x bits h = omega (arith, bit_lt 0 bits, bit_lt 1 bits, bit_lt 2 bits, bit_lt 3 bits, bit_lt 4 bits)
