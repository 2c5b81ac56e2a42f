-- A number of the text: one byte more, and where it ends.
-- Assumes nothing.
use Rattle.std.proofs.Common.{◌≡◌, refl, sym, ap, ℕ, ◌+◌, ◌<◌, ◌≤◌, Bool, true, false, cond, List, [], ◌∷◌, length, get_or, drop, Ok, Result, eqb, add-one, arith, drop-cons, length-drop}
use lib.Seq.{drop-length}
use Rattle.std.proofs.lemmas.Bool.Decides.{nat_tests}
use Rattle.text.specs.declared.number.Number.{Number}
use Rattle.text.specs.declared.number.NumberFault.{NumberFault}
use Rattle.text.specs.Number.{separating, entered_byte, scanned}

-- where a byte separates, the number ends; elsewhere the byte is entered
pub scanned_stop : (text : List ℕ) (v : Result ℕ NumberFault) (i : ℕ) → i < length text → separating (get_or text i 0) ≡ true → scanned v i (drop i text) ≡ record { value = v; end = i }
unfolding scanned
scanned_stop text v i h s = rw (drop-cons text i 0 h) (rw s refl)

pub scanned_step : (text : List ℕ) (v : Result ℕ NumberFault) (i : ℕ) → i < length text → separating (get_or text i 0) ≡ false → scanned v i (drop i text) ≡ scanned (entered_byte v (get_or text i 0)) (i + 1) (drop (i + 1) text)
unfolding scanned
scanned_step text v i h s =
    rw (drop-cons text i 0 h) (rw s (ap (λ (n : ℕ). scanned (entered_byte v (get_or text i 0)) (i + 1) (drop n text)) (sym (add-one i))))

pub scanned_none : (text : List ℕ) (v : Result ℕ NumberFault) (i : ℕ) → i ≡ length text → scanned v i (drop i text) ≡ record { value = v; end = i }
unfolding scanned
scanned_none text v i h = rw (h, drop-length) refl

-- what separates is no digit
pub entered_begins : (value next byte : ℕ) → entered_byte (Ok value) byte ≡ Ok next → separating byte ≡ false
unfolding entered_byte
entered_begins value next byte e = grind (arith, nat_tests)

-- nor is what begins a number a newline
pub other_begins : (byte : ℕ) → separating byte ≡ false → eqb byte 10 ≡ false
other_begins byte h = grind (arith, nat_tests)

-- a number ends within its text
pub scanned_from : (v : Result ℕ NumberFault) (at : ℕ) (l : List ℕ) → at ≤ (scanned v at l).end
unfolding scanned
scanned_from v at [] = omega arith
scanned_from v at (b ∷ bs) = from (separating b) v at (scanned (entered_byte v b) (at + 1) bs) (scanned_from (entered_byte v b) (at + 1) bs)
  where
    from : (s : Bool) (v : Result ℕ NumberFault) (at : ℕ) (n : Number) → at + 1 ≤ n.end → at ≤ (cond s (record { value = v; end = at }) n).end
    from true v at n h = omega arith
    from false v at n h = omega arith

pub scanned_within : (v : Result ℕ NumberFault) (at : ℕ) (l : List ℕ) → (scanned v at l).end ≤ at + length l
unfolding scanned
scanned_within v at [] = omega arith
scanned_within v at (b ∷ bs) = within (separating b) (scanned_within (entered_byte v b) (at + 1) bs)
  where
    within : (s : Bool) → (scanned (entered_byte v b) (at + 1) bs).end ≤ at + 1 + length bs → (cond s (record { value = v; end = at }) (scanned (entered_byte v b) (at + 1) bs)).end ≤ at + length (b ∷ bs)
    within true h = omega arith
    within false h = omega arith

-- a number that begins at a byte that does not separate passes that byte, and ends within the text
pub number_ahead : (text : List ℕ) (i : ℕ) → i < length text → separating (get_or text i 0) ≡ false → i + 1 ≤ (scanned (Ok 0) i (drop i text)).end
number_ahead text i h s =
    rw (scanned_step text (Ok 0) i h s) (scanned_from (entered_byte (Ok 0) (get_or text i 0)) (i + 1) (drop (i + 1) text))

pub number_in : (text : List ℕ) (i : ℕ) → i < length text → (scanned (Ok 0) i (drop i text)).end ≤ length text
number_in text i h = omega (arith, scanned_within (Ok 0) i (drop i text), length-drop i text)
