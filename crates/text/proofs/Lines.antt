-- A line, one turn at a time: what is left of it is read as the whole of it is.
-- Assumes nothing.
use Rattle.std.proofs.Common.{◌≡◌, refl, sym, ◌∙◌, ℕ, zero, suc, ◌+◌, ◌<◌, ◌≤◌, true, false, List, Result, Ok, Err, eqb, length, get_or, drop, set, arith}
use borrow.Author.Tests.{le-leb, lt-leb, eq-eqb}
use Rattle.text.specs.Number.{separating, scanned}
use Rattle.text.specs.Line.{row_of, fault_of, line_from}
use Rattle.text.specs.declared.line.LineFault.{LineFault}
use Rattle.text.specs.declared.line.Row.{Row}
use Rattle.text.specs.declared.number.Number.{Number}
use Rattle.text.specs.declared.number.NumberFault.{NumberFault}
use Rattle.text.proofs.Numbers.{number_ahead}

module _ (text : List ℕ) (whole : Result Row LineFault × List ℕ) where
  -- so many turns are enough, and what they read is the whole
  abbrev pub Rest : ℕ → ℕ → List ℕ → Type 0
  Rest count end row = (turns : ℕ) × (length text ≤ end + turns) × (line_from turns text count end row ≡ whole)

  module _ (count end : ℕ) (row : List ℕ) where
    pub text_ends : length text ≤ end → Rest count end row → (Ok (row_of count end), row) ≡ whole
    unfolding line_from
    text_ends h (zero, _, e) = e
    text_ends h (suc turns, _, e) = sym (rw (le-leb _ _ h) refl) ∙ e

    module _ (h : end < length text) where
      pub line_ends : get_or text end 0 ≡ 10 → Rest count end row → (Ok (row_of count end), row) ≡ whole
      unfolding line_from
      line_ends is (zero, long, e) = absurd (omega arith)
      line_ends is (suc turns, long, e) = sym (rw (lt-leb _ _ h, eq-eqb _ _ is) refl) ∙ e

      pub blank_passed : eqb (get_or text end 0) 10 ≡ false → separating (get_or text end 0) ≡ true → Rest count end row → Rest count (end + 1) row
      unfolding line_from
      blank_passed other blank (zero, long, e) = absurd (omega arith)
      blank_passed other blank (suc turns, long, e) = (turns, omega arith, sym (rw (lt-leb _ _ h, blank, other) refl) ∙ e)

      -- a number begins here
      module _ (other : eqb (get_or text end 0) 10 ≡ false) (begins : separating (get_or text end 0) ≡ false) (n : Number) (is : n ≡ scanned (Ok 0) end (drop end text)) where
        pub fault_read : (cause : NumberFault) → n.value ≡ Err cause → Rest count end row → (Err (fault_of cause (row_of count end)), row) ≡ whole
        unfolding line_from
        fault_read cause faulty (zero, long, e) = absurd (omega arith)
        fault_read cause faulty (suc turns, long, e) = sym (rw (lt-leb _ _ h, begins, other, sym is, faulty) refl) ∙ e

        pub number_stored : (value : ℕ) → n.value ≡ Ok value → Rest count end row → Rest (count + 1) n.end (set row count value)
        unfolding line_from
        number_stored value numbered (zero, long, e) = absurd (omega arith)
        number_stored value numbered (suc turns, long, e) =
            let ahead : end + 1 ≤ n.end = rw is (number_ahead text end h begins) in
            (turns, omega arith, sym (rw (lt-leb _ _ h, begins, other, sym is, numbered) refl) ∙ e)
