-- `arrangement::card::is_good` meets its contract. The loop's invariant: the numbers so far are below 9, and seen.
-- Assumes nothing.
use Rattle.arrangement.proofs.Wrong.{Seen}
use Rattle.arrangement.proofs.card.is_good.Given as goal

abbrev pub invariant-loop-number : goal.invariant-loop-number
invariant-loop-number l = Seen l.card l.number-index l.seen
