-- `listing::put_group` meets its contract. The loop's invariant: the first j words are put.
-- Assumes nothing.
use Rattle.page.specs.Page.{Printed}
use Rattle.listing.specs.Listing.{words_text}
use Rattle.listing.proofs.put_group.Given as goal

abbrev pub invariant-loop-j : goal.invariant-loop-j
invariant-loop-j l = Printed (words_text l.words 0 l.j) l.initial.page l.page
