-- A part of a slice that goes to its end, lent and back: what a call is lent, and what the whole is afterwards.
-- Assumes nothing.
use mathlib.Core.Path.{◌≡◌, ap, ap₂, ◌∙◌}
use mathlib.Core.List.{List, ◌++◌, append-nil}
use Prim.Native.Nat.{ℕ, ◌+◌, ◌-◌, ◌*◌}
use native.Mathlib.Nat.{mul_comm}
use native.Mathlib.Omega.{arith}
use borrow.Rule.Slice.PartMut.{put_mid}
use lib.ListN.{length, take, drop, length-drop, drop_of_length-le}
use lib.Seq.{take_all}
use Rattle.indexed.proofs.Blocks.{stored, stored_more}

pub part_to_end : {A : Type 0} (a : ℕ) (l : List A) → take (length l - a) (drop a l) ≡ drop a l
part_to_end a l = take_all (length l - a) (drop a l) (omega (arith, length-drop a l))

part_back : {A : Type 0} (a : ℕ) (l part : List A) → put_mid a (length l - a) l part ≡ take a l ++ part
part_back a l part =
    ap (λ (r : List _). take a l ++ (part ++ r))
    (drop_of_length-le (drop a l) {i = length l - a} (omega (arith, length-drop a l)))
    ∙ ap (λ (r : List _). take a l ++ r) (append-nil part)

-- a list stored in the part of the output that begins where the others end
pub next_stored : (size : ℕ) (f : ℕ → List ℕ) → ((k : ℕ) → length (f k) ≡ size) → (g : ℕ) (output whole part next : List ℕ)
    → whole ≡ stored size g f output → next ≡ f g → part ≡ next ++ drop size (take (length whole - g * size) (drop (g * size) whole))
    → put_mid (g * size) (length whole - g * size) whole part ≡ stored size (g + 1) f output
next_stored size f long g output whole part next is_whole is-next lent =
    part_back (g * size) whole part
    ∙ ap (λ (p : List ℕ). take (g * size) whole ++ p)
    (lent ∙ ap₂ (λ (w r : List ℕ). w ++ drop size r) is-next (part_to_end (g * size) whole))
    ∙ ap₂ (λ (n : ℕ) (w : List ℕ). take n w ++ (f g ++ drop size (drop n w))) (mul_comm g size) is_whole
    ∙ stored_more size g f output (λ k h. long k)
