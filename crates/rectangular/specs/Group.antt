-- A group of the rectangular code, over its width w: tracks 0 to w − 1 and the parity track w, characters of w bits, the
-- polynomial X^w + f (document 000, "Code format and parity check matrix", "Orthogonal symmetry" and "Summary": the code for
-- any number of parallel channels). At nine tracks w is 8.
-- Assumes nothing.
use Rattle.std.specs.Prelude.{◌≡◌, cond, List, ℕ, zero, suc, ◌-◌, ◌^◌, ◌<◌, ◌≤◌, ltb, get_or}
use Rattle.indexed.specs.List.{tabulate}
use Rattle.register.specs.Bit.{bit, of_bits}
use Rattle.register.specs.Exponent.{Exponent}
use Rattle.register.specs.Shift.{shifts}
use Rattle.register.specs.Sum.{xor_sum}

-- the information character B_i, i from 1 to w − 1, of those that come on tape, B_(w−1) first
unfoldable pub information : ℕ → List ℕ → ℕ → ℕ
information w info i = get_or info (w - 1 - i) 0

-- the check character, the sum of T^i B_i for i from 1 to w − 1 (equation (23))
unfoldable pub check : ℕ → ℕ → List ℕ → ℕ
check w f info = xor_sum (w - 1) (λ i. shifts w f (suc i) (information w info (suc i)))

-- B_i, the check character being B_0
unfoldable pub character : ℕ → ℕ → List ℕ → ℕ → ℕ
character w f info zero = check w f info
character w f info (suc i) = information w info (suc i)

-- rows and columns exchanged: Z_j(i) is B_i(j) ("Orthogonal symmetry")
unfoldable pub column : ℕ → (ℕ → ℕ) → ℕ → ℕ
column w b j = of_bits (tabulate w (λ i. bit j (b i)))

-- track j: Z_j, or the parity track P, the sum of the others (equation (8))
unfoldable pub track : ℕ → ℕ → List ℕ → ℕ → ℕ
track w f info j = cond (ltb j w) (column w (character w f info) j) (xor_sum w (column w (character w f info)))

-- the group that is written from its information characters: tracks 0 to w
unfoldable pub group : ℕ → ℕ → List ℕ → List ℕ
group w f info = tabulate (suc w) (track w f info)

-- track values that satisfy the code's two equations
pub record IsGroup (w f : ℕ) (v : ℕ → ℕ) : Type 0 where
  pub bounds : (k : ℕ) → k ≤ w → v k < 2 ^ w
  -- equation (11)
  pub parity : xor_sum (suc w) v ≡ 0
  -- equation (12)
  pub checked : xor_sum w (λ i. shifts w f i (v i)) ≡ 0

-- the information characters that stand in track values, B_(w−1) first
unfoldable pub information_of : ℕ → (ℕ → ℕ) → List ℕ
information_of w v = tabulate (w - 1) (λ k. column w v (w - 1 - k))

-- What the code asks of its polynomial at width w: the feedback fits, the shift has an exponent, and none of its powers 1 to
-- w − 1 keeps a character but 0. (Document 000 asks an irreducible polynomial of exponent w or more, which gives this.)
pub record Suits (w f : ℕ) : Type 0 where
  pub positive : 0 < w
  pub fits : f < 2 ^ w
  pub exponent : ℕ
  pub is_exponent : Exponent w f exponent
  pub keeps_none : (k : ℕ) → 0 < k → k < w → (a : ℕ) → a < 2 ^ w → shifts w f k a ≡ a → a ≡ 0
