-- `head_order::ways::map` meets its contract, by its one test and what `arrange_bits` ensures.
-- Assumes nothing.
use mathlib.Core.Path.{ap, ◌∙◌}
use Rattle.answer.specs.Answer.{told_refusal}
use Rattle.track_order.specs.Order.{arranged_map}
use Rattle.track_order.proofs.Moved.{map_refused, map_delivered}
use Rattle.head_order.proofs.ways.map.Goals as goal

pub returns-then-map-gt-MOST_MAP : goal.returns-then-map-gt-MOST_MAP
returns-then-map-gt-MOST_MAP c = ap told_refusal c.into.ensures ∙ map_refused (arranged_map c.args.way.now) c.args.map c.if-map-gt-MOST_MAP.true

pub returns : goal.returns
returns c = map_delivered (arranged_map c.args.way.now) c.args.map c.if-map-gt-MOST_MAP.false _ c.arrange_bits.ensures
