-- `report::line::count_marks` meets its contract. The loop's invariant: the bits of the first maps are counted.
-- Assumes nothing.
use mathlib.Core.Path.{◌≡◌, refl, sym, ap, ◌∙◌}
use Prim.Native.Nat.{ℕ, ◌+◌, ◌≤◌}
use native.Mathlib.Numerals.{add-one}
use native.Mathlib.Omega.{arith}
use lib.Count.{ones, ones-le}
use mathlib.Core.List.{List}
use mir.Syntax.{w16}
use mir.Val.{Fits}
use lib.ListN.{length, get_or}
use Rattle.indexed.specs.List.{total}
use Rattle.sense_log.specs.Log.{marks}
use Rattle.report.proofs.line.count_marks.Goals as goal

-- a map has sixteen bits at most
few : (maps : List ℕ) (k : ℕ) → ((i : ℕ) → Fits w16 (get_or maps i 0)) → ones (get_or maps k 0) ≤ 16
few maps k fit = ones-le 16 _ (fit k).fits

pub loop-map-init : goal.loop-map-init
unfolding total
loop-map-init c = (omega arith, refl)

pub overflow_add-count : goal.overflow_add-count
overflow_add-count c = omega (arith, few _ c.loop-map.map-index c.type_inv.maps)

pub loop-map-preserved : goal.loop-map-preserved
unfolding total
loop-map-preserved c =
    let maps = c.args.maps.now in
    let at = c.loop-map in (
      omega (arith, few _ at.map-index c.type_inv.maps),
      ap (λ (x : ℕ). at.count + x) c.from-count.ensures ∙ ap (λ (x : ℕ). x + ones (get_or maps at.map-index 0)) at.invariant.1 ∙ ap (λ (n : ℕ). total n (λ g. ones (get_or maps g 0))) (sym (add-one at.map-index)),
    )

pub returns : goal.returns
unfolding marks
returns c =
    let maps = c.args.maps.now in
    let at = c.loop-map in
    let all : at.map-index ≡ length maps = omega arith in
    at.invariant.1 ∙ ap (λ (n : ℕ). total n (λ g. ones (get_or maps g 0))) all
