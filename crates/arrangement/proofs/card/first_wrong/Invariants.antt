-- `arrangement::card::first_wrong` meets its contract. The loop's invariant: no number before `place` is wrong.
-- Assumes nothing.
use Rattle.indexed.proofs.First.{NoneBelow}
use Rattle.track_order.specs.Card.{wrong_number}
use Rattle.arrangement.proofs.card.first_wrong.Given as goal

abbrev pub invariant-loop-place : goal.invariant-loop-place
invariant-loop-place l = NoneBelow (wrong_number l.card) l.card l.place
