-- `group6250::transpose::transposed` meets its contract: the three steps exchange rows and columns.
-- Assumes nothing.
use mathlib.Core.Path.{ap, ◌∙◌}
use borrow.Author.Rules.{rules}
use Rattle.group6250.specs.Packed.{bytes_of, exchange}
use Rattle.group6250.proofs.Exchange.{exchanges, bytes_are_columns}
use Rattle.group6250.proofs.transpose.transposed.Goals as goal

pub returns : goal.returns
unfolding exchanges
returns c =
    let x = c.args.x in
    let bits = c.exchanged-bits.ensures in
    let pairs = c.exchanged-pairs.ensures in
    ap bytes_of
    (c.exchanged.ensures
    ∙ ap (exchange 28 4042322160) (pairs ∙ ap (exchange 14 225176545447116) bits))
    ∙ bytes_are_columns x (search rules)
