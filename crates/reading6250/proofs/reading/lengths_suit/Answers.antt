-- `reading6250::reading::lengths_suit` meets its contract.
-- Assumes nothing.
use mathlib.Core.Path.{sym, ap, ap₂, ◌∙◌}
use mathlib.Core.Bool.{Bool, ◌&&◌}
use Prim.Native.Nat.{ℕ, ◌*◌}
use native.Mathlib.Nat.{mul_comm}
use native.Mathlib.Omega.{arith}
use borrow.Author.Tests.{lt-ltb, le-leb, lt-leb}
use lib.Dec.{ltb, leb, eqb}
use Rattle.record6250.specs.Read.{lengths_suit}
use Rattle.reading6250.proofs.reading.lengths_suit.Goals.{then-maps-eq0-via-then-maps-eq0, then-maps-eq0-via-else-maps-eq0+then-maps-gt-MOST_GROUPS}
use Rattle.reading6250.proofs.reading.lengths_suit.Goals as goal

pub returns-then-maps-eq0 : goal.returns-then-maps-eq0
unfolding lengths_suit
returns-then-maps-eq0 c =
    let args = c.args in
    elim c.then-maps-eq0.branch [
      | then-maps-eq0-via-then-maps-eq0 w ↦ sym (ap (λ (m : ℕ). (ltb 0 m && leb m 586) && eqb args.words (9 * m)) w.if-maps-eq0.true)
      | then-maps-eq0-via-else-maps-eq0+then-maps-gt-MOST_GROUPS w ↦
          sym (ap₂ (λ (p q : Bool). (p && q) && eqb args.words (9 * args.maps)) (lt-ltb 0 args.maps (omega (arith, w.if-maps-gt-MOST_GROUPS.true))) (lt-leb args.maps 586 w.if-maps-gt-MOST_GROUPS.true))
    ]

pub returns : goal.returns
unfolding lengths_suit
returns c =
    let args = c.args in
    ap (eqb args.words) (mul_comm args.maps 9)
    ∙ sym (ap₂ (λ (p q : Bool). (p && q) && eqb args.words (9 * args.maps)) (lt-ltb 0 args.maps (omega (arith, c.if-maps-eq0.false))) (le-leb args.maps 586 c.if-maps-gt-MOST_GROUPS.false))
