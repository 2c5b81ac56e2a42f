-- `listing::put_group` meets its contract: the line grows word by word.
-- Assumes nothing.
use mathlib.Core.Path.{◌≡◌, sym}
use native.Mathlib.Omega.{arith}
use lib.Seq.{length-take-le}
use Rattle.page.proofs.Printed.{printed_both}
use Rattle.rectangular.specs.Constants.{numbers_per_group}
use Rattle.listing.proofs.Lines.{blocks_none, blocks_more, front_word}
use Rattle.listing.proofs.put_group.Goals as goal

pub loop-j-init : goal.loop-j-init
loop-j-init c = blocks_none _ _

pub loop-j-preserved : goal.loop-j-preserved
loop-j-preserved c =
    let l = c.loop-j in
    let word = front_word c.args.words.now 9 l.j (omega (arith, c.loop-j-test.true, length-take-le 9 c.args.words.now c.requires)) in
    blocks_more l.j _ c.args.page.now _ _ l.invariant (rw (sym word) c.put_word.ensures)

pub returns : goal.returns
returns c =
    let l = c.loop-j in
    let all : l.j ≡ numbers_per_group = omega (arith, c.loop-j-test.false, l.auto.j-end, length-take-le 9 c.args.words.now c.requires) in
    printed_both _ _ c.args.page.now _ _ (rw (sym all) l.invariant) c.put.ensures.text
