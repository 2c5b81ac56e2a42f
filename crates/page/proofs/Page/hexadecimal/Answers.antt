-- `page::Page::hexadecimal` meets its contract: the digits are those of `io::hex`.
-- Assumes nothing.
use Prim.Native.Nat.{◌^◌, ◌<◌}
use mathlib.Core.Path.{sym, ◌∙◌}
use native.Mathlib.Omega.{arith}
use Rattle.page.proofs.Printed.{digits_numeral}
use Rattle.page.proofs.Page.hexadecimal.Goals as goal

pub returns : goal.returns
returns c =
    let d = c.hex-count in
    let small : c.args.number < 16 ^ 20 = omega (arith, c.ranges.number.fits) in
    let text = d.ensures.digits ∙ digits_numeral 16 2 _ _ (omega arith) (omega arith) (omega arith) small d.ensures.len in
    record { text = rw (sym text) c.put.ensures.text; kept = rw (sym text) c.put.ensures.kept }
