-- The two syndromes, and the errors that they tell of with the tracks that are pointed, over the width w, the feedback f and the
-- exponent n (document 000, "Error correction capability", theorems 1 and 2). Errors come from (S1, S2) and the tracks alone: nothing
-- here knows how tracks hold their values, nor how they lie on tape.
-- Assumes nothing.
use Rattle.std.specs.Prelude.{cond, List, [], ◌∷◌, ℕ, suc, ◌+◌, ◌-◌, ◌*◌, ◌/◌, eqb, ltb, length, get_or}
use Rattle.indexed.specs.List.{first_where, below}
use Rattle.register.specs.Shift.{shifts}
use Rattle.register.specs.Sum.{xor_sum}
use Rattle.register.specs.Xor.{◌⊕◌}

-- the syndromes S1 and S2 of track values (equations (13) and (14))
unfoldable pub parity_syndrome : ℕ → (ℕ → ℕ) → ℕ
parity_syndrome w v = xor_sum (suc w) v

unfoldable pub check_syndrome : ℕ → ℕ → (ℕ → ℕ) → ℕ
check_syndrome w f v = xor_sum w (λ i. shifts w f i (v i))

-- what an error e in track k leaves in S2: T^k e, and nothing if the track is P (equation (17))
unfoldable pub weighed : ℕ → ℕ → ℕ → ℕ → ℕ
weighed w f k e = cond (ltb k w) (shifts w f k e) 0

-- the inverse of I + T^d: with an odd exponent n it is the sum of the first n / 2 odd powers of T^d
unfoldable pub erasure : ℕ → ℕ → ℕ → ℕ → ℕ → ℕ
erasure w f n d x = xor_sum (n / 2) (λ k. shifts w f (d * (2 * k + 1)) x)

-- the error in the second of two tracks i < j (equation (21)): the matrix is the identity if the second track is P
unfoldable pub second_error : ℕ → ℕ → ℕ → ℕ → ℕ → ℕ → ℕ → ℕ
second_error w f n i j s1 s2 =
    cond (ltb j w) (erasure w f n (j - i) (s1 ⊕ shifts w f (n - i) s2)) (s1 ⊕ shifts w f (n - i) s2)

-- An error in each of two tracks (track, error, track, error), of which either may be 0, which is none; or why there is no group: three
-- or more tracks are pointed, or no errors in the tracks that may differ account for the syndromes.
pub data Errors : Type 0 where
  errors_in : ℕ → ℕ → ℕ → ℕ → Errors
  too_many : Errors
  unaccounted : Errors

-- the first of these tracks in which the error S1 accounts for S2, by its index, or their number
unfoldable pub first_accounting : ℕ → ℕ → ℕ → ℕ → List ℕ → ℕ
first_accounting w f s1 s2 tracks = first_where (λ k. eqb (weighed w f k s1) s2) tracks

-- one track is wrong at most, one of these; beside it stands P with no error
unfoldable pub one_error : ℕ → ℕ → ℕ → ℕ → List ℕ → Errors
one_error w f s1 s2 tracks =
    cond (ltb (first_accounting w f s1 s2 tracks) (length tracks))
    (errors_in (get_or tracks (first_accounting w f s1 s2 tracks) 0) s1 w 0)
    unaccounted

-- two tracks, i < j, are wrong at most (equations (20) and (21))
unfoldable pub two_errors : ℕ → ℕ → ℕ → ℕ → ℕ → ℕ → ℕ → Errors
two_errors w f n s1 s2 i j = errors_in i (s1 ⊕ second_error w f n i j s1 s2) j (second_error w f n i j s1 s2)

-- by the tracks that are pointed, lowest first
unfoldable pub errors_of : ℕ → ℕ → ℕ → ℕ → ℕ → List ℕ → Errors
errors_of w f n s1 s2 [] = one_error w f s1 s2 (below (suc w))
errors_of w f n s1 s2 (i ∷ []) = one_error w f s1 s2 (i ∷ [])
errors_of w f n s1 s2 (i ∷ j ∷ []) = two_errors w f n s1 s2 i j
errors_of w f n s1 s2 (i ∷ j ∷ k ∷ more) = too_many
