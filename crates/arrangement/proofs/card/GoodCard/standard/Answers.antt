-- `arrangement::card::GoodCard::standard` meets its contract: the table is the definition's card, which is good.
-- Assumes nothing.
use mathlib.Core.Path.{refl}
use Rattle.track_order.specs.Order.{standard_card}
use Rattle.track_order.proofs.Card.{good_permutation, standard_good}
use Rattle.arrangement.proofs.card.GoodCard.standard.Goals as goal

pub invariant_of-result : goal.invariant_of-result
unfolding standard_card
invariant_of-result c = good_permutation _ standard_good

pub returns : goal.returns
unfolding standard_card
returns c = refl
