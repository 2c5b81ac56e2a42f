-- `text::number::faulty` meets its contract: a byte more, and what is left of the number is read as the whole of it is.
-- Assumes nothing.
use Rattle.std.proofs.Common.{refl, sym, ap, ◌∙◌, ◌+◌, drop, Err, arith, rules}
use Rattle.text.specs.Number.{scanned}
use Rattle.text.proofs.Numbers.{scanned_stop, scanned_step, scanned_none}
use Rattle.text.proofs.number.faulty.Goals as goal

pub loop-end-init : goal.loop-end-init
loop-end-init c = record { within = search rules; left = refl }

pub loop-end-preserved : goal.loop-end-preserved
loop-end-preserved c =
    let l = c.loop-end in
    let text = c.args.text.now in
    record {
      within = search rules;
      left = ap (λ v. scanned v (l.end + 1) (drop (l.end + 1) text)) c.faulty_with-cause.ensures
          ∙ sym (scanned_step text (Err l.cause) l.end c.loop-end-test.true (sym c.separates.ensures ∙ c.if-separates.false))
          ∙ l.invariant.left;
    }

pub returns-then-separates : goal.returns-then-separates
returns-then-separates c =
    let l = c.loop-end in
    sym (scanned_stop _ (Err l.cause) l.end c.loop-end-test.true (sym c.separates.ensures ∙ c.if-separates.true)) ∙ l.invariant.left

pub returns-after-loop-end : goal.returns-after-loop-end
returns-after-loop-end c =
    let l = c.loop-end in
    sym (scanned_none _ (Err l.cause) l.end (omega arith)) ∙ l.invariant.left
