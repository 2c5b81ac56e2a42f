-- `text::number::number_at` meets its contract: a byte more, and what is left of the number is read as the whole of it is.
-- Assumes nothing.
use Rattle.std.proofs.Common.{refl, sym, ap, ◌∙◌, ◌+◌, drop, Ok, arith, rules}
use Rattle.text.specs.Number.{scanned}
use Rattle.text.proofs.Numbers.{entered_begins, scanned_stop, scanned_step, scanned_none}
use Rattle.text.proofs.number.number_at.Goals as goal

pub loop-end-init : goal.loop-end-init
loop-end-init c = record { within = search rules; left = refl }

pub loop-end-preserved : goal.loop-end-preserved
loop-end-preserved c =
    let l = c.loop-end in
    let text = c.args.text.now in
    let read = sym c.in-Ok.is ∙ c.entered.ensures in
    record {
      within = search rules;
      left = ap (λ v. scanned v (l.end + 1) (drop (l.end + 1) text)) read
          ∙ sym (scanned_step text (Ok l.value) l.end c.loop-end-test.true (entered_begins _ _ _ (sym read)))
          ∙ l.invariant.left;
    }

pub returns-in-Err : goal.returns-in-Err
returns-in-Err c =
    let l = c.loop-end in
    sym (scanned_stop _ (Ok l.value) l.end c.loop-end-test.true (sym c.separates.ensures ∙ c.if-separates.true)) ∙ l.invariant.left

pub returns-in-Err-2 : goal.returns-in-Err-2
returns-in-Err-2 c =
    let l = c.loop-end in
    let text = c.args.text.now in
    c.faulty.ensures
    ∙ ap (λ v. scanned v (l.end + 1) (drop (l.end + 1) text)) (sym c.in-Err.is ∙ c.entered.ensures)
    ∙ sym (scanned_step text (Ok l.value) l.end c.loop-end-test.true (sym c.separates.ensures ∙ c.if-separates.false))
    ∙ l.invariant.left

pub returns-after-loop-end : goal.returns-after-loop-end
returns-after-loop-end c =
    let l = c.loop-end in
    sym (scanned_none _ (Ok l.value) l.end (omega arith)) ∙ l.invariant.left
