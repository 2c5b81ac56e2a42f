-- `log_reader::bits::spare_clear` meets its contract: what a shift leaves of the last byte are its spare bits.
-- Assumes nothing.
use mathlib.Core.Path.{sym, ◌∙◌}
use native.Mathlib.Omega.{arith}
use borrow.Author.Tests.{eq-eqb}
use Prim.Native.Nat.{◌/◌, ◌%◌}
use Rattle.log_reader.proofs.Spare.{none_spare, spare_shifted}
use Rattle.log_reader.proofs.bits.spare_clear.Goals as goal

pub returns-then-left-eq0 : goal.returns-then-left-eq0
returns-then-left-eq0 c =
    eq-eqb (c.args.groups % 8) 0 c.if-left-eq0.true ∙ sym (none_spare c.args.groups c.args.log.now c.if-left-eq0.true)

pub returns-else-left-eq0 : goal.returns-else-left-eq0
returns-else-left-eq0 c =
    spare_shifted c.args.groups c.args.log.now (omega (arith, c.if-left-eq0.false)) (c.type_inv.log (c.args.groups / 8)).fits
