-- A text that fits on a page, one that does not, and one text behind another; and the digits of a number.
-- Assumes nothing.
use Prim.Native.Nat.{ℕ, zero, suc, ◌+◌, ◌-◌, ◌/◌, ◌%◌, ◌^◌, ◌≤◌, ◌<◌, max}
use mathlib.Core.Path.{◌≡◌, refl, sym, ap, ◌∙◌}
use mathlib.Core.Bool.{Bool, true, false, true≢false}
use mathlib.Core.List.{List, [], ◌∷◌, ◌++◌}
use native.Mathlib.Nat.{le_trans, lt_irrefl, lt_of_lt_of_le, pow-le-pow_right}
use native.Mathlib.Numerals.{add-one}
use native.Mathlib.Omega.{arith}
use borrow.Author.Tests.{le-leb, lt-leb, lt-ltb, le-ltb, leb-true, leb-false, ltb-true, ltb-false}
use lib.Dec.{leb, ltb}
use lib.ListN.{length, length-append, take}
use lib.Seq.{length-take-le}
use Rattle.std.specs.Prelude.{Option, None, Some, Ok, Err}
use Rattle.std.proofs.Common.{append-nil, append_assoc}
use Rattle.io.specs.Digits.{last_digits, hex_digit_ascii, IsDigitCount}
use Rattle.indexed.specs.List.{first_below}
use Rattle.indexed.proofs.Below.{first_below_at, first_below_before, first_below_le}
use Rattle.page.specs.Page.{page_size, PageText, whole_text, held_count, text_after, Printed, places, numeral}

module _ (held text : List ℕ) where
  pub after_fits : length text ≤ page_size - length held → text_after (Some held) text ≡ Some (held ++ text)
  unfolding text_after
  after_fits h = rw (le-leb _ _ h) refl

  pub after_over : page_size - length held < length text → text_after (Some held) text ≡ None
  unfolding text_after
  after_over h = rw (lt-leb _ _ h) refl

-- of a page on which a text does not fit nothing is handed over
pub not_printed : (bytes : List ℕ) (held : ℕ) (text : List ℕ) → held ≤ page_size → length bytes ≡ page_size → page_size - held < length text → Printed text (Ok (take held bytes)) (Err (take held bytes))
not_printed bytes held text within size over =
    sym (after_over (take held bytes) text (omega (arith, over, length-take-le held bytes (rw size within))))

-- of what is handed over each byte is counted
pub whole_count : (page : PageText) (text : List ℕ) → whole_text page ≡ Some text → held_count page ≡ length text
whole_count (Ok held) text e = cc
whole_count (Err held) text e = cc

-- no text changes nothing
pub after_none : (whole : Option (List ℕ)) → text_after whole [] ≡ whole
unfolding text_after
after_none None = refl
after_none (Some held) = after_fits held [] (omega arith) ∙ ap Some (append-nil held)

-- one text behind another
pub after_both : (whole : Option (List ℕ)) (a b : List ℕ) → text_after (text_after whole a) b ≡ text_after whole (a ++ b)
unfolding text_after
after_both None a b = refl
after_both (Some held) a b = by (leb (length a) (page_size - length held)) refl
  where
    rest : length a ≤ page_size - length held → text_after (Some (held ++ a)) b ≡ text_after (Some held) (a ++ b)
    rest fits = of (leb (length b) (page_size - length (held ++ a))) refl
      where
        of : (t : Bool) → leb (length b) (page_size - length (held ++ a)) ≡ t → text_after (Some (held ++ a)) b ≡ text_after (Some held) (a ++ b)
        of true e =
            after_fits (held ++ a) b (leb-true _ _ e) ∙ ap Some (append_assoc held a b)
            ∙ sym (after_fits held (a ++ b) (omega (arith, fits, leb-true _ _ e, length-append held a, length-append a b)))
        of false e =
            after_over (held ++ a) b (leb-false _ _ e) ∙ sym (after_over held (a ++ b) (omega (arith, fits, leb-false _ _ e, length-append held a, length-append a b)))

    by : (t : Bool) → leb (length a) (page_size - length held) ≡ t → text_after (text_after (Some held) a) b ≡ text_after (Some held) (a ++ b)
    by true e = ap (λ p. text_after p b) (after_fits held a (leb-true _ _ e)) ∙ rest (leb-true _ _ e)
    by false e = ap (λ p. text_after p b) (after_over held a (leb-false _ _ e)) ∙ sym (after_over held (a ++ b) (omega (arith, leb-false _ _ e, length-append a b)))

pub printed_both : (a b : List ℕ) (p q r : PageText) → Printed a p q → Printed b q r → Printed (a ++ b) p r
printed_both a b p q r s t = t ∙ ap (λ w. text_after w b) s ∙ after_both (whole_text p) a b

-- the places of a number are the fewest that hold it
module _ (base least n k : ℕ) (b : 1 ≤ base) (l : 1 ≤ least) (short : least ≤ 20) (small : n < base ^ 20) (f : IsDigitCount base least n k) where
  most : k ≤ 20
  most = by (ltb 20 k) refl
    where
      large : 20 < k → base ^ 20 ≤ n
      large h = le_trans (pow-le-pow_right b (omega arith)) (f.2 (omega arith))

      by : (t : Bool) → ltb 20 k ≡ t → k ≤ 20
      by true e = absurd (lt_irrefl n (lt_of_lt_of_le small (large (ltb-true _ _ e))))
      by false e = ltb-false _ _ e

  abbrev holds : ℕ → Bool
  holds j = ltb n (base ^ suc j)

  last_holds : holds (k - 1) ≡ true
  last_holds = let e : suc (k - 1) ≡ k = omega (arith, f.0) in lt-ltb n (base ^ suc (k - 1)) (rw e f.1)

  -- with more digits than the least, one fewer does not hold it
  more : least < k → first_below 20 holds ≡ k - 1
  more h = first_below_at 20 holds (k - 1) (omega (arith, most)) (λ j u. le-ltb _ _ (le_trans (pow-le-pow_right b u) (f.2 h))) last_holds

  -- with the least, the first number of digits that holds it is no more
  fewer : first_below 20 holds ≤ k - 1
  fewer = by (ltb (k - 1) (first_below 20 holds)) refl
    where
      by : (t : Bool) → ltb (k - 1) (first_below 20 holds) ≡ t → first_below 20 holds ≤ k - 1
      by true e = absurd (true≢false (sym last_holds ∙ first_below_before 20 holds (k - 1) (ltb-true _ _ e)))
      by false e = ltb-false _ _ e

  pub fewest_places : k ≡ places base least n
  unfolding places
  fewest_places = by (ltb least k) refl
    where
      longer : least < k → k ≡ max least (first_below 20 holds + 1)
      longer h = let e = more h in omega arith

      least_only : k ≤ least → k ≡ max least (first_below 20 holds + 1)
      least_only h = omega (arith, f.0, fewer)

      by : (t : Bool) → ltb least k ≡ t → k ≡ max least (first_below 20 holds + 1)
      by true e = longer (ltb-true _ _ e)
      by false e = least_only (ltb-false _ _ e)

  -- so its digits are the numeral
  pub digits_numeral : last_digits base k n ≡ numeral base least n
  unfolding numeral
  digits_numeral = ap (λ (j : ℕ). last_digits base j n) fewest_places

-- and are no more than the definition looks for
length_digits : (base k n : ℕ) → length (last_digits base k n) ≡ k
length_digits base zero n = refl
length_digits base (suc k) n =
    length-append (last_digits base k (n / base)) (hex_digit_ascii (n % base) ∷ []) ∙ ap (λ (m : ℕ). m + 1) (length_digits base k (n / base)) ∙ add-one k

pub numeral_short : (base least n : ℕ) → least ≤ 21 → length (numeral base least n) ≤ 21
unfolding numeral places
numeral_short base least n h = omega (arith, length_digits base (places base least n) n, first_below_le 20 (λ k. ltb n (base ^ suc k)))
