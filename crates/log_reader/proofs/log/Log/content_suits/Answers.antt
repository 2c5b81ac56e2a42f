-- `log_reader::log::Log::content_suits` meets its contract.
-- Assumes nothing.
use mathlib.Core.Path.{sym, ap, ◌∙◌}
use mathlib.Core.Bool.{Bool, ◌&&◌}
use native.Mathlib.Omega.{arith}
use Rattle.sense_log.specs.Back.{content_suits, maps_suit}
use Rattle.sense_log.proofs.Good.{length_told_lem}
use Rattle.log_reader.proofs.log.Log.content_suits.Goals as goal

pub spare_clear-requires : goal.spare_clear-requires
spare_clear-requires c = let log = c.args.self.now in omega (arith, (length_told_lem log.groups log.bytes.now log.suits).2)

pub returns-then-spare_clear : goal.returns-then-spare_clear
unfolding content_suits
returns-then-spare_clear c =
    let log = c.args.self.now in
    c.maps_suit.ensures ∙ ap (λ (b : Bool). b && maps_suit log.groups log.bytes.now) (sym c.if-spare_clear.true ∙ c.spare_clear.ensures)

pub returns-else-spare_clear : goal.returns-else-spare_clear
unfolding content_suits
returns-else-spare_clear c =
    let log = c.args.self.now in
    c.if-spare_clear.false ∙ ap (λ (b : Bool). b && maps_suit log.groups log.bytes.now) (sym c.if-spare_clear.false ∙ c.spare_clear.ensures)
