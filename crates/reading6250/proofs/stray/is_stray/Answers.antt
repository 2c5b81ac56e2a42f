-- `reading6250::stray::is_stray` meets its contract: the numbers are looked at all at once, as a slice.
-- Assumes nothing.
use mathlib.Core.Path.{◌≡◌, sym, ap, ◌∙◌}
use mathlib.Core.Bool.{Bool, true, false, ◌||◌}
use borrow.Author.Tests.{lt-ltb, le-ltb}
use lib.Dec.{ltb}
use native.Mathlib.Omega.{arith}
use Rattle.reading6250.proofs.StrayBits.{stray_lent}
use Rattle.reading6250.proofs.stray.is_stray.Goals as goal

pub returns-then-union-gt-MOST_NUMBER : goal.returns-then-union-gt-MOST_NUMBER
returns-then-union-gt-MOST_NUMBER c =
    let args = c.args in
    let above : ltb 1023 c.union.result ≡ true = lt-ltb 1023 c.union.result (omega (arith, c.if-union-gt-MOST_NUMBER.true)) in
    above ∙ ap (λ (b : Bool). b || ltb 511 args.map) (sym above ∙ ap (ltb 1023) c.union.ensures ∙ stray_lent args.words.now args.at c.requires)

pub returns-else-union-gt-MOST_NUMBER : goal.returns-else-union-gt-MOST_NUMBER
returns-else-union-gt-MOST_NUMBER c =
    let args = c.args in
    let none : ltb 1023 c.union.result ≡ false = le-ltb 1023 c.union.result (omega (arith, c.if-union-gt-MOST_NUMBER.false)) in
    ap (λ (b : Bool). b || ltb 511 args.map) (sym none ∙ ap (ltb 1023) c.union.ensures ∙ stray_lent args.words.now args.at c.requires)
