-- Lists given by their elements: length, elements, and a list as the table of its own elements.
-- Assumes nothing.
use mathlib.Core.Path.{◌≡◌, refl, sym, ap, ap₂, ◌∙◌}
use mathlib.Core.List.{List, [], ◌∷◌, ◌++◌}
use Prim.Native.Nat.{ℕ, zero, suc, ◌+◌, ◌<◌, suc-le-suc}
use native.Mathlib.Nat.{add-zero, zero-add, add-suc, suc-add, not-suc-le-zero, le_of_suc-le-suc, zero-lt-suc}
use native.Mathlib.Omega.{arith}
use lib.ListN.{length, get_or}
use lib.Seq.{ext_get_or}
use Rattle.indexed.specs.List.{tabulate, tabulate_from}

length_from : {A : Type 0} (i n : ℕ) (f : ℕ → A) → length (tabulate_from i n f) ≡ n
unfolding tabulate_from
length_from i zero f = refl
length_from i (suc n) f = ap suc (length_from (suc i) n f)

get_or_from : {A : Type 0} (i n : ℕ) (f : ℕ → A) (k : ℕ) (d : A) → k < n → get_or (tabulate_from i n f) k d ≡ f (i + k)
unfolding tabulate_from
get_or_from i zero f k d h = absurd (not-suc-le-zero h)
get_or_from i (suc n) f zero d h = ap f (sym (add-zero i))
get_or_from i (suc n) f (suc k) d h =
    get_or_from (suc i) n f k d (le_of_suc-le-suc h) ∙ ap f (suc-add i k ∙ sym (add-suc i k))

pub length_tabulate : {A : Type 0} (n : ℕ) (f : ℕ → A) → length (tabulate n f) ≡ n
unfolding tabulate
length_tabulate n f = length_from 0 n f

pub get_d_tabulate : {A : Type 0} (n : ℕ) (f : ℕ → A) (k : ℕ) (d : A) → k < n → get_or (tabulate n f) k d ≡ f k
unfolding tabulate
get_d_tabulate n f k d h = get_or_from 0 n f k d h ∙ ap f (zero-add k)

-- a table that is computed to be the list of its rule's values keeps the rule at each index
pub ruled : {A : Type 0} (table : List A) (n : ℕ) (f : ℕ → A) → table ≡ tabulate n f → (k : ℕ) (d : A) → k < n → get_or table k d ≡ f k
ruled table n f e k d h = ap (λ (l : List _). get_or l k d) e ∙ get_d_tabulate n f k d h

-- the first value, and the table of the others
from_suc : {A : Type 0} (i n : ℕ) (f : ℕ → A) → tabulate_from (suc i) n f ≡ tabulate_from i n (λ k. f (suc k))
unfolding tabulate_from
from_suc i zero f = refl
from_suc i (suc n) f = ap (λ (l : List _). f (suc i) ∷ l) (from_suc (suc i) n f)

pub tabulate_suc : {A : Type 0} (n : ℕ) (f : ℕ → A) → tabulate (suc n) f ≡ f 0 ∷ tabulate n (λ k. f (suc k))
unfolding tabulate tabulate_from
tabulate_suc n f = ap (λ (l : List _). f 0 ∷ l) (from_suc 0 n f)

-- the same values at each index below n, the same table
from_same : {A : Type 0} (i n : ℕ) (f g : ℕ → A) → ((k : ℕ) → k < n → f (i + k) ≡ g (i + k)) → tabulate_from i n f ≡ tabulate_from i n g
unfolding tabulate_from
from_same i zero f g e = refl
from_same i (suc n) f g e =
    ap₂ (λ (x : _) (l : List _). x ∷ l) (rw add-zero at (e 0 (zero-lt-suc n)))
    (from_same (suc i) n f g (λ k h. rw (suc-add, ← add-suc) (e (suc k) (suc-le-suc h))))

pub tabulate_same : {A : Type 0} (n : ℕ) (f g : ℕ → A) → ((k : ℕ) → k < n → f k ≡ g k) → tabulate n f ≡ tabulate n g
unfolding tabulate
tabulate_same n f g e = from_same 0 n f g (λ k h. rw zero-add (e k h))

-- the last value apart
from_last : {A : Type 0} (i n : ℕ) (f : ℕ → A) → tabulate_from i (suc n) f ≡ tabulate_from i n f ++ (f (i + n) ∷ [])
unfolding tabulate_from
from_last i zero f = ap (λ (k : ℕ). f k ∷ []) (sym (add-zero i))
from_last i (suc n) f =
    ap (λ (l : List _). f i ∷ l)
    (from_last (suc i) n f ∙ ap (λ (k : ℕ). tabulate_from (suc i) n f ++ (f k ∷ [])) (suc-add i n ∙ sym (add-suc i n)))

pub tabulate_last : {A : Type 0} (n : ℕ) (f : ℕ → A) → tabulate (suc n) f ≡ tabulate n f ++ (f n ∷ [])
unfolding tabulate
tabulate_last n f = from_last 0 n f ∙ ap (λ (k : ℕ). tabulate_from 0 n f ++ (f k ∷ [])) (zero-add n)

-- a list by its elements, one by one
pub tabulate_get_or : (n : ℕ) (l : List ℕ) → length l ≡ n → tabulate n (λ k. get_or l k 0) ≡ l
tabulate_get_or n l long =
    ext_get_or 0 _ _ (length_tabulate n _ ∙ sym long) (λ k h. get_d_tabulate n _ k 0 (omega (arith, length_tabulate n (λ k. get_or l k 0))))
