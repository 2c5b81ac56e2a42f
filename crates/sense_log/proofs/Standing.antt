-- The bits that stand: of one map, and counted over the groups.
-- Assumes nothing.
use mathlib.Core.Path.{◌≡◌, sym, ap, ◌∙◌}
use mathlib.Core.Bool.{Bool, cond}
use mathlib.Core.List.{[], ◌∷◌}
use Prim.Native.Nat.{ℕ, ◌*◌, ◌/◌, ◌%◌, ◌<◌}
use native.Mathlib.Decide.{dec_lt}
use native.Mathlib.Omega.{arith}
use borrow.Author.Tests.{eq-eqb, ne_eqb}
use lib.ListN.{length}
use Rattle.sense_log.specs.Log.{standing, map_bytes}

-- ---- of one map

pub standing_none : (m : ℕ) → m ≡ 0 → standing m ≡ 0
unfolding standing
standing_none m e = ap (λ (b : Bool). cond b 0 1) (eq-eqb m 0 e)

pub standing_some : (m : ℕ) → 0 < m → standing m ≡ 1
unfolding standing
standing_some m h = ap (λ (b : Bool). cond b 0 1) (ne_eqb m 0 (λ e. omega arith))

pub standing_lt : (m : ℕ) → standing m < 2
standing_lt m = by (dec_lt 0 m)
  where
    by : Dec (0 < m) → standing m < 2
    by (yes h) = omega (arith, standing_some m h)
    by (no h) = omega (arith, standing_none m (omega arith))

-- its bytes
pub no_bytes : (m : ℕ) → m ≡ 0 → map_bytes m ≡ []
unfolding map_bytes
no_bytes m e = ap (λ (b : Bool). cond b [] (m % 256 ∷ m / 256 ∷ [])) (eq-eqb m 0 e)

pub two_bytes : (m : ℕ) → 0 < m → map_bytes m ≡ m % 256 ∷ m / 256 ∷ []
unfolding map_bytes
two_bytes m h = ap (λ (b : Bool). cond b [] (m % 256 ∷ m / 256 ∷ [])) (ne_eqb m 0 (λ e. omega arith))

pub length_map_bytes : (m : ℕ) → length (map_bytes m) ≡ 2 * standing m
length_map_bytes m = by (dec_lt 0 m)
  where
    by : Dec (0 < m) → length (map_bytes m) ≡ 2 * standing m
    by (yes h) = ap length (two_bytes m h) ∙ sym (ap (λ (s : ℕ). 2 * s) (standing_some m h))
    by (no h) =
        let none : m ≡ 0 = omega arith in
        ap length (no_bytes m none) ∙ sym (ap (λ (s : ℕ). 2 * s) (standing_none m none))
