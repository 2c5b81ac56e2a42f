-- `arrangement::card::first_wrong` meets its contract. The loop's invariant: no number before `place` is wrong.
-- Assumes nothing.
use mathlib.Core.Path.{sym, ◌∙◌}
use native.Mathlib.Omega.{arith}
use Rattle.indexed.proofs.First.{first_at, first_none}
use Rattle.indexed.proofs.Found.{index_found, none_found}
use Rattle.track_order.specs.Card.{wrong_number, first_wrong}
use Rattle.arrangement.proofs.card.first_wrong.Goals as goal

pub returns-then-is_wrong : goal.returns-then-is_wrong
unfolding first_wrong
returns-then-is_wrong c =
    let at = c.loop-place in
    index_found _ _ at.place (first_at _ _ at.place c.loop-place-test.true at.invariant (sym c.is_wrong.ensures ∙ c.if-is_wrong.true)) c.loop-place-test.true

pub returns : goal.returns
unfolding first_wrong
returns c =
    let at = c.loop-place in
    none_found _ _ (omega (arith, first_none (wrong_number c.args.card.now) c.args.card.now at.place (omega arith) at.invariant))
