-- `log_reader::log::Log::maps_suit` meets its contract. The loop's invariant: the first k maps suit.
-- Assumes nothing.
use mathlib.Core.Path.{◌≡◌, sym, ap, ◌∙◌}
use mathlib.Core.Bool.{Bool, true, ◌&&◌}
use mathlib.Core.List.{List}
use Prim.Native.Nat.{ℕ, ◌+◌, ◌*◌}
use native.Mathlib.Omega.{arith}
use lib.Dec.{leb, ltb}
use Rattle.indexed.proofs.Below.{one_more_below}
use Rattle.rectangular.specs.Constants.{most_map}
use Rattle.sense_log.specs.Back.{stored_map}
use Rattle.sense_log.specs.Log.{bit_map_length}
use Rattle.sense_log.specs.Pair.{pair_at}
use Rattle.sense_log.proofs.Good.{length_told_lem}
use Rattle.log_reader.proofs.Suits.{suited, maps_stored, one_unsuited, all_suited}
use Rattle.log_reader.proofs.log.Log.maps_suit.Goals as goal

-- map k is looked at
looked : (groups : ℕ) (log : List ℕ) (k front map : ℕ) (told : Bool) → front ≡ bit_map_length groups → map ≡ pair_at log (front + 2 * k)
    → told ≡ (ltb 0 map && leb map most_map) → told ≡ suited groups log k
unfolding stored_map
looked groups log k front map told from is tested =
    tested ∙ ap (λ (m : ℕ). ltb 0 m && leb m most_map) (is ∙ ap (λ (at : ℕ). pair_at log (at + 2 * k)) from)

pub overflow_sub-count : goal.overflow_sub-count
overflow_sub-count c = let log = c.args.self.now in omega (arith, (length_told_lem log.groups log.bytes.now log.suits).2)

pub returns-then-not-map_suits : goal.returns-then-not-map_suits
returns-then-not-map_suits c =
    let log = c.args.self.now in
    let k = c.loop-k.k in
    one_unsuited log.groups log.bytes.now k (omega (arith, maps_stored log.groups log.bytes.now log.suits, c.loop-k-test.true, c.bit_map_length-front.ensures))
    (sym (looked log.groups log.bytes.now k _ _ _ c.bit_map_length-front.ensures c.pair_at.ensures c.map_suits.ensures) ∙ c.if-not-map_suits.true)

pub loop-k-preserved : goal.loop-k-preserved
loop-k-preserved c =
    let log = c.args.self.now in
    let k = c.loop-k.k in
    one_more_below k (λ j. suited log.groups log.bytes.now j ≡ true) c.loop-k.invariant
    (sym (looked log.groups log.bytes.now k _ _ _ c.bit_map_length-front.ensures c.pair_at.ensures c.map_suits.ensures) ∙ c.if-not-map_suits.false)

pub returns : goal.returns
returns c =
    let log = c.args.self.now in
    all_suited log.groups log.bytes.now
    (λ j h. c.loop-k.invariant j (omega (arith, maps_stored log.groups log.bytes.now log.suits, c.loop-k-test.false, c.bit_map_length-front.ensures)))
