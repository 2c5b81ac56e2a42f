-- The changes of each track, as the code holds them: five numbers in one of 64 bits, twelve bits for each, and four in another.
-- Assumes nothing.
use Rattle.std.specs.Prelude.{ℕ, ◌+◌, ◌*◌, ◌/◌, ◌%◌, ◌^◌, ◌<◌, List, [], ◌∷◌, ◌++◌, ◌≡◌, take}
use Rattle.track_counts.specs.declared.Counts.{Counts}

-- the five numbers that one holds
abbrev pub fields : ℕ → List ℕ
fields n = n % 4096 ∷ n / 0x1000 % 4096 ∷ n / 0x1000000 % 4096 ∷ n / 0x1000000000 % 4096 ∷ n / 0x1000000000000 % 4096 ∷ []

-- what is told: nine numbers, track 0 first
abbrev pub counts_told : Counts → List ℕ
counts_told c = fields c.low ++ take 4 (fields c.high)

-- ---- while they are counted

-- five numbers in one
abbrev pub packed : (ℕ → ℕ) → ℕ
packed f = f 0 + 4096 * (f 1 + 4096 * (f 2 + 4096 * (f 3 + 4096 * f 4)))

-- track k has f k changes; behind the nine tracks there is room for a tenth number
pub record Holds (c : Counts) (f : ℕ → ℕ) : Type 0 where
  pub lower : c.low ≡ packed f
  pub upper : c.high ≡ packed (λ k. f (5 + k))

-- one change more in each track has room
pub record HasRoom (c : Counts) : Type 0 where
  pub lower : c.low < 2 ^ 63
  pub upper : c.high < 2 ^ 63
