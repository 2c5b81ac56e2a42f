-- The body of a record, group by group: full of data, or the last.
-- Assumes nothing.
use mathlib.Core.Path.{◌≡◌, refl, sym, ap, ◌∙◌}
use mathlib.Core.List.{List, [], ◌∷◌, ◌++◌, append_assoc}
use Prim.Native.Nat.{ℕ, zero, suc, ◌-◌, ◌*◌, ◌/◌, ◌%◌, ◌<◌, ◌≤◌}
use native.Mathlib.Omega.{arith}
use lib.ListN.{length, take, drop, set, replicate, length-append, length-drop, length-replicate}
use lib.Seq.{drop-append-le, take-append-le, take_all, set_at}
use Rattle.record6250.specs.Record.{padding, body, group_bytes}

module _ (bytes : List ℕ) where
  zeros : List ℕ
  zeros = replicate (padding (length bytes)) 0

  -- what is behind the first bytes of the body
  body_drop : (n : ℕ) → n ≤ length bytes → drop n (body bytes) ≡ drop n bytes ++ (zeros ++ (padding (length bytes) ∷ []))
  unfolding body zeros
  body_drop n h =
      ap (drop n) (append_assoc bytes zeros (padding (length bytes) ∷ []))
      ∙ drop-append-le n bytes (zeros ++ (padding (length bytes) ∷ [])) h

  pub full_group : (g : ℕ) → g < length bytes / 7 → group_bytes g (body bytes) ≡ take 7 (drop (7 * g) bytes)
  unfolding group_bytes
  full_group g h =
      ap (take 7) (body_drop (7 * g) (omega arith))
      ∙ take-append-le 7 (drop (7 * g) bytes) _ (omega (arith, length-drop (7 * g) bytes))

  pub last_group_is : group_bytes (length bytes / 7) (body bytes)
      ≡ drop (length bytes - length bytes % 7) bytes ++ (replicate (6 - length bytes % 7) 0 ++ ((6 - length bytes % 7) ∷ []))
  unfolding group_bytes zeros padding
  last_group_is =
      let start : 7 * (length bytes / 7) ≡ length bytes - length bytes % 7 = omega arith in
      let tail : List ℕ = drop (length bytes - length bytes % 7) bytes in
      let end : List ℕ = replicate (6 - length bytes % 7) 0 ++ ((6 - length bytes % 7) ∷ []) in
      ap (take 7) (body_drop (7 * (length bytes / 7)) (omega arith) ∙ ap (λ (n : ℕ). drop n bytes ++ end) start)
      ∙ take_all 7 (tail ++ end)
      (omega (
        arith,
        length-append tail end,
        length-drop (length bytes - length bytes % 7) bytes,
        length-append (replicate (6 - length bytes % 7) 0) ((6 - length bytes % 7) ∷ []),
        length-replicate {A = ℕ} (6 - length bytes % 7) 0,
      ))

-- seven zeros, of which some are in use and the last is set
zeros_left : (r : ℕ) → r < 7 → drop {A = ℕ} r (replicate 7 0) ≡ replicate (6 - r) 0 ++ (0 ∷ [])
zeros_left zero h = refl
zeros_left (suc zero) h = refl
zeros_left (suc (suc zero)) h = refl
zeros_left (suc (suc (suc zero))) h = refl
zeros_left (suc (suc (suc (suc zero)))) h = refl
zeros_left (suc (suc (suc (suc (suc zero))))) h = refl
zeros_left (suc (suc (suc (suc (suc (suc zero)))))) h = refl
zeros_left (suc (suc (suc (suc (suc (suc (suc r))))))) h = absurd (omega arith)

pub last_set : (tail : List ℕ) (r p : ℕ) → length tail ≡ r → r < 7
    → set (tail ++ drop r (replicate 7 0)) 6 p ≡ tail ++ (replicate (6 - r) 0 ++ (p ∷ []))
last_set tail r p long h =
    let front : List ℕ = tail ++ replicate (6 - r) 0 in
    ap (λ (l : List ℕ). set (tail ++ l) 6 p) (zeros_left r h)
    ∙ ap (λ (l : List ℕ). set l 6 p) (sym (append_assoc tail (replicate (6 - r) 0) (0 ∷ [])))
    ∙ set_at front 0 [] p 6 (omega (arith, length-append tail (replicate (6 - r) 0), length-replicate {A = ℕ} (6 - r) 0))
    ∙ append_assoc tail (replicate (6 - r) 0) (p ∷ [])
