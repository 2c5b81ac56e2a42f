-- `arrangement::card::GoodCard::inverse` meets its contract. The loop's invariant: the places of the first `k` tracks are found.
-- Assumes nothing.
use Rattle.arrangement.proofs.Found.{Found}
use Rattle.arrangement.proofs.card.GoodCard.inverse.Given as goal

abbrev pub invariant-loop-k : goal.invariant-loop-k
invariant-loop-k l = Found l.self l.k l.places
