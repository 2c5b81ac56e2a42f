-- `text::line::line_at` meets its contract: what is left of the line is read as the whole of it is.
-- Assumes nothing.
use Rattle.std.proofs.Common.{refl, sym, ap, ◌∙◌, length, arith, rules}
use borrow.Author.Tests.{ne_eqb}
use Rattle.text.proofs.Lines.{text_ends, line_ends, blank_passed, fault_read, number_stored}
use Rattle.text.proofs.Numbers.{other_begins, number_ahead, number_in}
use Rattle.text.proofs.line.line_at.Goals as goal

pub loop-end-init : goal.loop-end-init
loop-end-init c = record {
  onward = omega arith;
  within = search rules;
  fewer = omega arith;
  kept = refl;
  left = (length c.args.text.now, omega arith, refl);
}

pub loop-end-preserved-then-separates : goal.loop-end-preserved-then-separates
loop-end-preserved-then-separates c =
    let at = c.loop-end in
    record {
      onward = omega (arith, at.invariant.onward);
      within = search rules;
      fewer = omega (arith, at.invariant.fewer);
      kept = at.invariant.kept;
      left = blank_passed c.args.text.now _ at.count at.end at.row c.loop-end-test.true
          (ne_eqb _ _ c.if-text-end-eq10.false) (sym c.separates.ensures ∙ c.if-separates.true) at.invariant.left;
    }

pub returns-in-Err-clause-line : goal.returns-in-Err-clause-line
returns-in-Err-clause-line c =
    let at = c.loop-end in
    ap (λ p. p.0)
    (fault_read c.args.text.now _ at.count at.end at.row c.loop-end-test.true (other_begins _ (sym c.separates.ensures ∙ c.if-separates.false))
    (sym c.separates.ensures ∙ c.if-separates.false) _ c.number_at-number.ensures c.in-Err.cause c.in-Err.is at.invariant.left)

pub returns-in-Err-clause-row : goal.returns-in-Err-clause-row
returns-in-Err-clause-row c =
    let at = c.loop-end in
    ap (λ p. p.1)
    (fault_read c.args.text.now _ at.count at.end at.row c.loop-end-test.true (other_begins _ (sym c.separates.ensures ∙ c.if-separates.false))
    (sym c.separates.ensures ∙ c.if-separates.false) _ c.number_at-number.ensures c.in-Err.cause c.in-Err.is at.invariant.left)

pub loop-end-smaller : goal.loop-end-smaller
loop-end-smaller c =
    let text = c.args.text.now in
    let end = c.loop-end.end in
    let n = c.number_at-number in
    let ahead = rw (← n.ensures) at (number_ahead text end c.loop-end-test.true (sym c.separates.ensures ∙ c.if-separates.false)) in
    let within = rw (← n.ensures) at (number_in text end c.loop-end-test.true) in
    omega (arith, ahead, within)

pub loop-end-preserved : goal.loop-end-preserved
loop-end-preserved c =
    let text = c.args.text.now in
    let at = c.loop-end in
    let n = c.number_at-number in
    let begins = sym c.separates.ensures ∙ c.if-separates.false in
    let ahead = rw (← n.ensures) at (number_ahead text at.end c.loop-end-test.true begins) in
    let within = rw (← n.ensures) at (number_in text at.end c.loop-end-test.true) in
    let stored = number_stored text _ at.count at.end at.row c.loop-end-test.true
    (other_begins _ (sym c.separates.ensures ∙ c.if-separates.false)) begins _ n.ensures c.in-Ok.value c.in-Ok.is at.invariant.left in
    record {
      onward = omega (arith, at.invariant.onward, ahead);
      within = within;
      fewer = omega (arith, at.invariant.fewer, ahead);
      kept = search rules;
      left = rw c.put.ensures stored;
    }

pub returns-after-loop-end-clause-line : goal.returns-after-loop-end-clause-line
returns-after-loop-end-clause-line c =
    let at = c.loop-end in
    ap (λ p. p.0) (text_ends c.args.text.now _ at.count at.end at.row c.loop-end-test.false at.invariant.left)

pub returns-after-loop-end-clause-row : goal.returns-after-loop-end-clause-row
returns-after-loop-end-clause-row c =
    let at = c.loop-end in
    ap (λ p. p.1) (text_ends c.args.text.now _ at.count at.end at.row c.loop-end-test.false at.invariant.left)

pub returns-then-text-end-eq10-clause-line : goal.returns-then-text-end-eq10-clause-line
returns-then-text-end-eq10-clause-line c =
    let at = c.loop-end in
    ap (λ p. p.0) (line_ends c.args.text.now _ at.count at.end at.row c.loop-end-test.true c.if-text-end-eq10.true at.invariant.left)

pub returns-then-text-end-eq10-clause-row : goal.returns-then-text-end-eq10-clause-row
returns-then-text-end-eq10-clause-row c =
    let at = c.loop-end in
    ap (λ p. p.1) (line_ends c.args.text.now _ at.count at.end at.row c.loop-end-test.true c.if-text-end-eq10.true at.invariant.left)
