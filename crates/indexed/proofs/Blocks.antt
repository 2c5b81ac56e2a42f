-- Lists put end to end: their length, the lists cut out again, and a loop that stores one after the other at the front of
-- an output.
-- Assumes nothing.
use mathlib.Core.Path.{◌≡◌, refl, sym, ap, ap₂, ◌∙◌}
use mathlib.Core.List.{List, ◌++◌, append_assoc}
use Prim.Native.Nat.{ℕ, zero, suc, ◌+◌, ◌*◌, ◌<◌, ◌≤◌}
use native.Mathlib.Nat.{mul-zero, mul-suc, mul-le-mul_left, le_refl, le_of_eq, not-suc-le-zero}
use native.Mathlib.Decide.{dec_lt}
use native.Mathlib.Numerals.{add-one}
use native.Mathlib.Omega.{arith}
use lib.ListN.{length, get_or, take, drop, length-append, length-drop}
use lib.Seq.{take_at, drop_at, drop-drop, take_all, take-length, take-add, take-append-le, drop-append-le, get_or-take, get_or-drop}
use Rattle.indexed.specs.List.{blocks}

-- lists of one length
pub length_blocks : {A : Type 0} (size n : ℕ) (f : ℕ → List A) → ((k : ℕ) → k < n → length (f k) ≡ size) → length (blocks n f) ≡ size * n
unfolding blocks
length_blocks size zero f e = sym (mul-zero size)
length_blocks size (suc n) f e =
    length-append (blocks n f) (f n)
    ∙ ap₂ ◌+◌ (length_blocks size n f (λ k h. e k (omega arith))) (e n (le_refl (suc n)))
    ∙ sym (mul-suc size n)

pub blocks_same : {A : Type 0} (n : ℕ) (f g : ℕ → List A) → ((k : ℕ) → k < n → f k ≡ g k) → blocks n f ≡ blocks n g
unfolding blocks
blocks_same zero f g e = refl
blocks_same (suc n) f g e = ap₂ ◌++◌ (blocks_same n f g (λ k h. e k (omega arith))) (e n (le_refl (suc n)))

-- ---- lists of one length, cut out again

pub cut_blocks : {A : Type 0} (size n : ℕ) (f : ℕ → List A) → ((k : ℕ) → k < n → length (f k) ≡ size)
    → (g : ℕ) → g < n → take size (drop (size * g) (blocks n f)) ≡ f g
unfolding blocks
cut_blocks size zero f e g h = absurd (not-suc-le-zero h)
cut_blocks size (suc n) f e g h = by (dec_lt g n) (cut_blocks size n f (λ k b. e k (omega arith)) g)
  where
    long : length (blocks n f) ≡ size * n
    long = length_blocks size n f (λ k b. e k (omega arith))

    by : Dec (g < n) → (g < n → take size (drop (size * g) (blocks n f)) ≡ f g)
        → take size (drop (size * g) (blocks n f ++ f n)) ≡ f g
    by (yes b) ih =
        let room : size * suc g ≤ size * n = mul-le-mul_left size b in
        let next : size * suc g ≡ size * g + size = mul-suc size g in
        ap (take size) (drop-append-le (size * g) (blocks n f) (f n) (omega (arith, long)))
        ∙ take-append-le size (drop (size * g) (blocks n f)) (f n) (omega (arith, long, length-drop (size * g) (blocks n f)))
        ∙ ih b
    by (no b) ih =
        let last : n ≡ g = omega arith in
        ap (take size) (drop_at (blocks n f) (f n) (size * g) (long ∙ ap (λ (k : ℕ). size * k) last))
        ∙ take_all size (f n) (le_of_eq (e n (le_refl (suc n))))
        ∙ ap f last

pub get_or_blocks : {A : Type 0} (size n : ℕ) (f : ℕ → List A) → ((k : ℕ) → k < n → length (f k) ≡ size)
    → (g k : ℕ) (d : A) → g < n → k < size → get_or (blocks n f) (size * g + k) d ≡ get_or (f g) k d
get_or_blocks size n f e g k d hg hk =
    sym (get_or-drop (size * g) (blocks n f) k d)
    ∙ sym (get_or-take size (drop (size * g) (blocks n f)) k d hk)
    ∙ ap (λ (l : List _). get_or l k d) (cut_blocks size n f e g hg)

-- a list cut into parts of one length, and put together again
join_front : {A : Type 0} (size n : ℕ) (l : List A) → blocks n (λ g. take size (drop (size * g) l)) ≡ take (size * n) l
unfolding blocks
join_front size zero l = ap (λ (k : ℕ). take k l) (sym (mul-zero size))
join_front size (suc n) l =
    ap (λ (r : List _). r ++ take size (drop (size * n) l)) (join_front size n l)
    ∙ sym (take-add (size * n) size l)
    ∙ ap (λ (k : ℕ). take k l) (sym (mul-suc size n))

pub join_cuts : {A : Type 0} (size n : ℕ) (l : List A) → length l ≡ size * n → blocks n (λ g. take size (drop (size * g) l)) ≡ l
join_cuts size n l e = join_front size n l ∙ ap (λ (k : ℕ). take k l) (sym e) ∙ take-length l

-- ---- a loop that stores

-- the output after the first n lists are stored
abbrev pub stored : {A : Type 0} → ℕ → ℕ → (ℕ → List A) → List A → List A
stored size n f output = blocks n f ++ drop (size * n) output

-- one more: what is before it stays, it is stored in front of the rest, and nothing behind it changes
pub stored_more : {A : Type 0} (size n : ℕ) (f : ℕ → List A) (output : List A) → ((k : ℕ) → k < n → length (f k) ≡ size)
    → take (size * n) (stored size n f output) ++ (f n ++ drop size (drop (size * n) (stored size n f output)))
    ≡ stored size (n + 1) f output
unfolding blocks
stored_more size n f output e =
    let long = length_blocks size n f e in
    let next : size * n + size ≡ size * (n + 1) = omega arith in
    ap₂ (λ (before rest : List _). before ++ (f n ++ drop size rest))
    (take_at (blocks n f) (drop (size * n) output) (size * n) long)
    (drop_at (blocks n f) (drop (size * n) output) (size * n) long)
    ∙ ap (λ (rest : List _). blocks n f ++ (f n ++ rest)) (drop-drop size (size * n) output)
    ∙ sym (append_assoc (blocks n f) (f n) (drop (size * n + size) output))
    ∙ ap₂ (λ (front : List _) (k : ℕ). front ++ drop k output) (ap (λ (k : ℕ). blocks k f) (sym (add-one n))) next
