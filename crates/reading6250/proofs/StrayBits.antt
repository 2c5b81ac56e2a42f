-- What a search for stray bits has seen, and what it then knows.
-- Assumes nothing.
use mathlib.Core.Path.{◌≡◌, refl, sym, ap, ap₂, ◌∙◌}
use mathlib.Core.Bool.{Bool, true, false, ◌||◌}
use mathlib.Core.List.{List}
use Prim.Native.Nat.{ℕ, ◌+◌, ◌-◌, ◌*◌, ◌<◌, ◌≤◌}
use native.Mathlib.Nat.{mul_comm}
use native.Mathlib.Omega.{arith}
use borrow.Author.Tests.{lt-ltb, le-ltb, ltb-false}
use lib.Dec.{ltb}
use lib.ListN.{length, get_or, take, drop}
use lib.Seq.{length-take-le}
use Rattle.std.proofs.lemmas.List.{get_or-take, get_or-drop}
use Rattle.std.proofs.Common.{length-drop}
use Rattle.slices.specs.Turned.{turned_place}
use Rattle.slices.specs.Union.{union_of}
use Rattle.slices.proofs.Or.{below_union, union_below}
use Rattle.slices.proofs.Turned.{turned_lt}
use Rattle.indexed.proofs.Below.{first_below_at, first_below_none}
use Rattle.rectangular.specs.Constants.{numbers_per_group}
use Rattle.record6250.specs.Picture.{group_lent, map_read}
use Rattle.record6250.specs.Read.{read_numbers, read_map, stray_at, first_stray}
use Rattle.record6250.specs.Tape.{numbers_at, stray_numbers}
use Rattle.record6250.proofs.Tape.{get_or_numbers_at, number_below, none_stray}

-- ---- one group

module _ (words : List ℕ) (at : ℕ) where
  above_at : (k : ℕ) → k < 9 → ltb 1023 (get_or (numbers_at words at) k 0) ≡ ltb 1023 (get_or words (at + k) 0)
  above_at k h = ap (ltb 1023) (get_or_numbers_at words at k h)

  pub stray_number : (k : ℕ) → k < 9 → ((j : ℕ) → j < k → ltb 1023 (get_or words (at + j) 0) ≡ false) → 1023 < get_or words (at + k) 0
      → stray_numbers (numbers_at words at) ≡ true
  unfolding stray_numbers
  stray_number k h none above =
      ap (λ (n : ℕ). ltb n 9)
      (first_below_at 9 (λ k. ltb 1023 (get_or (numbers_at words at) k 0)) k h (λ j b. above_at j (omega arith) ∙ none j b)
      (above_at k h ∙ lt-ltb 1023 (get_or words (at + k) 0) above))
      ∙ lt-ltb k 9 h

  pub no_stray_number : ((j : ℕ) → j < 9 → ltb 1023 (get_or words (at + j) 0) ≡ false) → stray_numbers (numbers_at words at) ≡ false
  no_stray_number none =
      none_stray (numbers_at words at) (λ k h. omega (arith, ltb-false 1023 (get_or (numbers_at words at) k 0) (above_at k h ∙ none k h)))

  -- as it is seen of all bits of a slice of them
  stray_slice : (numbers : List ℕ) → length numbers ≡ 9 → ((j : ℕ) → j < 9 → get_or numbers j 0 ≡ get_or words (at + j) 0)
      → ltb 1023 (union_of numbers) ≡ stray_numbers (numbers_at words at)
  stray_slice numbers long are = by (stray_numbers (numbers_at words at)) refl
    where
      few : union_of numbers < 1024 → stray_numbers (numbers_at words at) ≡ false
      few small = no_stray_number (λ j b. le-ltb 1023 (get_or words (at + j) 0) (omega (arith, are j b, below_union numbers 1024 small j (omega arith))))

      by : (b : Bool) → stray_numbers (numbers_at words at) ≡ b → ltb 1023 (union_of numbers) ≡ stray_numbers (numbers_at words at)
      by true e = by_test (ltb 1023 (union_of numbers)) refl
        where
          by_test : (b : Bool) → ltb 1023 (union_of numbers) ≡ b → ltb 1023 (union_of numbers) ≡ stray_numbers (numbers_at words at)
          by_test true t = t ∙ sym e
          by_test false t = t ∙ sym (few (omega (arith, ltb-false 1023 (union_of numbers) t)))
      by false e =
          le-ltb 1023 (union_of numbers)
          (omega (arith, union_below numbers 10 (λ k h. let j : k < 9 = omega arith in omega (arith, are k j, get_or_numbers_at words at k j, number_below (numbers_at words at) e k j))))
          ∙ sym e

  pub stray_lent : at + 9 ≤ length words → ltb 1023 (union_of (take (at + 9 - at) (drop at words))) ≡ stray_numbers (numbers_at words at)
  stray_lent within =
      stray_slice (take (at + 9 - at) (drop at words)) (length-take-le (at + 9 - at) (drop at words) (omega (arith, length-drop at words)) ∙ omega arith)
      (λ j h. get_or-take (at + 9 - at) (drop at words) j 0 (omega arith) ∙ get_or-drop at words j 0)

-- what a group's test told, at the place where it lies
pub stray_told : (backward : Bool) (words maps : List ℕ) (g place : ℕ) (told : Bool) → place ≡ turned_place backward (length maps) g
    → told ≡ (stray_numbers (numbers_at words (place * numbers_per_group)) || ltb 511 (get_or maps place 0)) → stray_at backward words maps g ≡ told
unfolding stray_at read_numbers read_map group_lent map_read
stray_told backward words maps g place told e t =
    ap (λ (p : ℕ). stray_numbers (numbers_at words (numbers_per_group * p)) || ltb 511 (get_or maps p 0)) (sym e)
    ∙ ap (λ (n : ℕ). stray_numbers (numbers_at words n) || ltb 511 (get_or maps place 0)) (mul_comm numbers_per_group place)
    ∙ sym t

-- ---- all bits at once

pub none_at_all : (backward : Bool) (words maps : List ℕ) → length words ≡ numbers_per_group * length maps → union_of words < 1024 → union_of maps < 512
    → first_stray backward words maps ≡ length maps
unfolding first_stray stray_at read_numbers read_map group_lent map_read
none_at_all backward words maps lengths few few-maps =
    first_below_none (length maps) (stray_at backward words maps)
    (λ g h. let place : ℕ = turned_place backward (length maps) g in
    let within : place < length maps = turned_lt backward (length maps) g h in
    ap₂ ◌||◌
    (no_stray_number words (numbers_per_group * place) (λ j b. le-ltb 1023 (get_or words (numbers_per_group * place + j) 0) (omega (arith, below_union words 1024 few (numbers_per_group * place + j) (omega arith)))))
    (le-ltb 511 (get_or maps place 0) (omega (arith, below_union maps 512 few-maps place within))))
