-- Lists by index.
-- Assumes nothing.
use Rattle.std.specs.Prelude.{ℕ, zero, suc, ◌+◌, Bool, cond, List, [], ◌∷◌, ◌++◌, Option, None, Some, eqb, ltb}

-- f i, f (i + 1), .., n of them
unfoldable pub tabulate_from : {A : Type 0} → ℕ → ℕ → (ℕ → A) → List A
tabulate_from i zero f = []
tabulate_from i (suc n) f = f i ∷ tabulate_from (suc i) n f

-- f 0, f 1, .., f (n - 1)
unfoldable pub tabulate : {A : Type 0} → ℕ → (ℕ → A) → List A
tabulate n f = tabulate_from 0 n f

-- f 0, then f 1, .., then f (n - 1), end to end
unfoldable pub blocks : {A : Type 0} → ℕ → (ℕ → List A) → List A
blocks zero f = []
blocks (suc n) f = blocks n f ++ f n

-- the index of the first element that passes the test, or the length where none does
unfoldable pub first_where : (ℕ → Bool) → List ℕ → ℕ
first_where p [] = zero
first_where p (x ∷ xs) = cond (p x) zero (suc (first_where p xs))

-- an index below n, or none where it is not below: what is found among n elements, if it is found
abbrev pub index_in : ℕ → ℕ → Option ℕ
index_in n i = cond (ltb i n) (Some i) None

-- 0, 1, .., n - 1
unfoldable pub below : ℕ → List ℕ
below n = tabulate n (λ k. k)

-- the first number below n that passes the test, or n where none does
unfoldable pub first_below : ℕ → (ℕ → Bool) → ℕ
first_below n p = first_where p (below n)

-- the elements that pass the test, in their order
unfoldable pub keep : (ℕ → Bool) → List ℕ → List ℕ
keep p [] = []
keep p (x ∷ xs) = cond (p x) (x ∷ keep p xs) (keep p xs)

-- the sum of f 0, .., f (n - 1)
unfoldable pub total : ℕ → (ℕ → ℕ) → ℕ
total zero f = zero
total (suc n) f = total n f + f n

-- how many of f 0, .., f (n - 1) are a
unfoldable pub occurrences : ℕ → (ℕ → ℕ) → ℕ → ℕ
occurrences n f a = total n (λ k. cond (eqb (f k) a) 1 0)
