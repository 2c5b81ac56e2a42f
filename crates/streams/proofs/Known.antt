-- What several reads in a row take, into the rest of a space, and what several writes add, of the rest of the bytes.
-- Assumes nothing.
use Rattle.std.proofs.Common.{◌≡◌, ℕ, ◌+◌, ◌-◌, ◌≤◌, List, ◌++◌, length, take, drop, Option, sym, ap, ap₂, ◌∙◌, subst, arith, length-take-le, length-drop, take-add, take-take, drop_at, le_refl}
use lib.Seq.{take-append-le}
use borrow.Rule.Slice.PartMut.{put_mid, post_of}
use Rattle.std.proofs.KnownBytes.{Consumes-trans, Appends-trans}
use Rattle.std.proofs.lemmas.Slice.{take-put_mid_below}
use Rattle.std.specs.Io.KnownBytes.{Consumes, Appends}

-- the front of the space once its rest was written
taken_more : (at k n : ℕ) (xs ys : List ℕ) → at ≤ length xs → n ≤ length ys → take (at + n) (put_mid at k xs ys) ≡ take at xs ++ take n ys
taken_more at k n xs ys within fits =
    take-add at n (put_mid at k xs ys)
    ∙ ap₂ (λ u v. u ++ v) (take-put_mid_below at k xs ys at (le_refl at) within) (ap (take n) (drop_at (take at xs) (ys ++ post_of at k xs) at (length-take-le at xs within)) ∙ take-append-le n ys (post_of at k xs) fits)

pub read_more : (count k n : ℕ) (space part : List ℕ) (a b c : Option (List ℕ)) → count ≤ length space → n ≤ length part → Consumes a b (take count space)
    → Consumes b c (take n part) → Consumes a c (take (count + n) (put_mid count k space part))
read_more count k n space part a b c within fits sofar more =
    subst (Consumes a c) (sym (taken_more count k n space part within fits)) (Consumes-trans a b c _ _ sofar more)

rest_length : (bytes : List ℕ) (count : ℕ) → length (take (length bytes - count) (drop count bytes)) ≡ length bytes - count
rest_length bytes count = length-take-le _ _ (omega (arith, length-drop count bytes))

-- what a write of the rest takes is of the bytes
pub within_all : (bytes : List ℕ) (count n : ℕ) → count ≤ length bytes → n ≤ length (take (length bytes - count) (drop count bytes)) → count + n ≤ length bytes
within_all bytes count n within fits = omega (arith, within, fits, rest_length bytes count)

pub written_more : (count n : ℕ) (bytes : List ℕ) (a b c : Option (List ℕ)) → count ≤ length bytes → count + n ≤ length bytes → Appends a b (take count bytes)
    → Appends b c (take n (take (length bytes - count) (drop count bytes))) → Appends a c (take (count + n) bytes)
written_more count n bytes a b c within fits sofar more =
    let is : take count bytes ++ take n (take (length bytes - count) (drop count bytes)) ≡ take (count + n) bytes
    = ap (λ l. take count bytes ++ l) (take-take n (length bytes - count) (drop count bytes) (omega arith)) ∙ sym (take-add count n bytes) in
    subst (Appends a c) is (Appends-trans a b c _ _ sofar more)
