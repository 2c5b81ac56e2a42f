-- `listing::put_groups` meets its contract. The loop's invariant: the first g groups are put.
-- Assumes nothing.
use Rattle.page.specs.Page.{Printed}
use Rattle.listing.specs.Listing.{record_text}
use Rattle.listing.proofs.put_groups.Given as goal

abbrev pub invariant-loop-g : goal.invariant-loop-g
invariant-loop-g l = Printed (record_text l.words l.g) l.initial.page l.page
