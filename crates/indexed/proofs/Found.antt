-- What is found among n elements: an index below n, or none (`index_in`).
-- Assumes nothing.
use mathlib.Core.Bool.{Bool, true, false, cond}
use mathlib.Core.Path.{◌≡◌, refl, sym, ap, ◌∙◌}
use Prim.Native.Nat.{ℕ, ◌<◌, ◌≤◌}
use borrow.Author.Tests.{lt-ltb, le-ltb, ltb-true, ltb-false}
use lib.Dec.{ltb}
use Rattle.std.specs.Prelude.{Some, None}
use Rattle.indexed.specs.List.{index_in}

-- the index is found if it is below n, and none is if it is not
pub index_found : (n i k : ℕ) → i ≡ k → k < n → Some k ≡ index_in n i
index_found n i k e h = sym (ap (index_in n) e ∙ ap (λ (b : Bool). cond b (Some k) None) (lt-ltb k n h))

pub none_found : (n i : ℕ) → n ≤ i → None ≡ index_in n i
none_found n i h = sym (ap (λ (b : Bool). cond b (Some i) None) (le-ltb i n h))

-- what is known of an index that was found, and where none was
pub found_index : (n i k : ℕ) → Some k ≡ index_in n i → (k ≡ i) × (i < n)
found_index n i k e = by (ltb i n) refl e
  where
    by : (b : Bool) → ltb i n ≡ b → Some k ≡ cond b (Some i) None → (k ≡ i) × (i < n)
    by true t q = (cc, ltb-true i n t)
    by false t q = absurd (cc)

pub found_none : (n i : ℕ) → None ≡ index_in n i → n ≤ i
found_none n i e = by (ltb i n) refl e
  where
    by : (b : Bool) → ltb i n ≡ b → None ≡ cond b (Some i) None → n ≤ i
    by true t q = absurd (cc)
    by false t q = ltb-false i n t
