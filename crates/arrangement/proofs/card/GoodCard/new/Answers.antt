-- `arrangement::card::GoodCard::new` meets its contract: nine numbers of which none is wrong are a good card.
-- Assumes nothing.
use mathlib.Core.Path.{sym, ◌∙◌}
use Rattle.track_order.proofs.Card.{good_permutation}
use Rattle.arrangement.proofs.Wrong.{none_found_good}
use Rattle.arrangement.proofs.card.GoodCard.new.Goals as goal

pub invariant_of-result : goal.invariant_of-result
invariant_of-result c = good_permutation _ (none_found_good _ c.told-numbers (sym c.in-None.is ∙ c.wrong_place.ensures))
