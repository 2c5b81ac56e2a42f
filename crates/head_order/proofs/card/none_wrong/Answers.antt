-- `head_order::card::none_wrong` meets its contract, by what the card is found to be.
-- Assumes nothing.
use borrow.Author.Rules.{rules}
use Rattle.std.proofs.lemmas.Result.{MatchResult-weaker}
use Rattle.head_order.proofs.Told.{track_told}
use Rattle.head_order.proofs.card.none_wrong.Goals as goal

pub returns : goal.returns
returns c =
    track_told c.args.card.now c.new.result c.map_err.result c.new.ensures
    (MatchResult-weaker c.new.result c.map_err.ensures.cases (λ good is. is) (λ track is. search rules))
