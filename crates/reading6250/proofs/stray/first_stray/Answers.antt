-- `reading6250::stray::first_stray` meets its contract. The loop's invariant: none of the first `g` groups has a stray bit.
-- Assumes nothing.
use mathlib.Core.Path.{◌≡◌, sym, ◌∙◌}
use mathlib.Core.Bool.{false}
use native.Mathlib.Nat.{le_of_eq}
use native.Mathlib.Omega.{arith}
use lib.ListN.{length}
use Rattle.indexed.proofs.Below.{first_below_at, first_below_none, one_more_below}
use Rattle.indexed.proofs.Found.{index_found, none_found}
use Rattle.record6250.specs.Read.{stray_at, first_stray}
use Rattle.reading6250.proofs.StrayBits.{stray_told, none_at_all}
use Rattle.reading6250.proofs.stray.first_stray.Goals as goal

pub returns-then-union-le-MOST_MAP : goal.returns-then-union-le-MOST_MAP
returns-then-union-le-MOST_MAP c =
    let args = c.args in
    none_found (length args.maps.now) _
    (le_of_eq (sym (none_at_all args.backward args.words.now args.maps.now c.requires
    (rw (← c.union.ensures) (omega (arith, c.if-union-le-MOST_NUMBER.true)))
    (rw (← c.union-then-union-le-MOST_NUMBER.ensures) (omega (arith, c.if-union-le-MOST_MAP.true))))))

pub overflow_mul-place : goal.overflow_mul-place
overflow_mul-place c = omega (arith, c.turned_place-place.ensures.within, c.requires)

pub is_stray-requires : goal.is_stray-requires
is_stray-requires c = omega (arith, c.turned_place-place.ensures.within, c.requires)

pub returns-then-is_stray : goal.returns-then-is_stray
unfolding first_stray
returns-then-is_stray c =
    let args = c.args in
    let at = c.loop-g in
    index_found (length args.maps.now) _ at.g
    (first_below_at (length args.maps.now) _ at.g c.loop-g-test.true at.invariant
    (stray_told args.backward args.words.now args.maps.now at.g c.turned_place-place.result
    c.is_stray.result c.turned_place-place.ensures.place c.is_stray.ensures
    ∙ c.if-is_stray.true))
    c.loop-g-test.true

pub loop-g-preserved : goal.loop-g-preserved
loop-g-preserved c =
    let args = c.args in
    let at = c.loop-g in
    one_more_below at.g
    (λ g. stray_at args.backward args.words.now args.maps.now g ≡ false)
    at.invariant
    (stray_told args.backward args.words.now args.maps.now at.g c.turned_place-place.result
    c.is_stray.result c.turned_place-place.ensures.place c.is_stray.ensures
    ∙ c.if-is_stray.false)

pub returns : goal.returns
unfolding first_stray
returns c =
    let args = c.args in
    let at = c.loop-g in
    none_found (length args.maps.now) _
    (le_of_eq (sym (first_below_none (length args.maps.now) _ (λ j h. at.invariant j (omega (arith, c.loop-g-test.false))))))
