-- `judge800::track::located` meets its contract. The loop's invariant: the pattern is shifted `j` times, and the first `j` tracks
-- are tried.
-- Assumes nothing.
use mathlib.Core.Path.{◌≡◌, refl, sym, ap, ap₂, ◌∙◌}
use mathlib.Core.Bool.{Bool, cond, ◌&&◌}
use mathlib.Core.List.{List, [], ◌∷◌, ◌++◌}
use Prim.Native.Nat.{ℕ, ◌+◌}
use native.Mathlib.Numerals.{add-one}
use native.Mathlib.Omega.{arith}
use lib.Dec.{eqb}
use lib.Pow.{shl_exact}
use Rattle.std.proofs.lemmas.List.{append-nil}
use Rattle.indexed.specs.List.{tabulate, tabulate_from, below, keep}
use Rattle.register.specs.Shift.{shifts}
use Rattle.register.specs.Xor.{◌⊕◌}
use Rattle.register.proofs.Shift.{shifts_lt}
use Rattle.cyclic.specs.Constants.{feedback, offset, times_x}
use Rattle.judge800.specs.Told.{one_found}
use Rattle.judge800.proofs.Tracks.{kept_next, kept_le, found_within}
use Rattle.judge800.proofs.track.located.Invariants.{holdsAt}
use Rattle.judge800.proofs.track.located.Goals.{then-agree, else-agree}
use Rattle.judge800.proofs.track.located.Goals as goal

pub loop-j-init : goal.loop-j-init
unfolding keep below tabulate tabulate_from shifts
loop-j-init c = (refl, refl)

pub shift-shifted-requires : goal.shift-shifted-requires
shift-shifted-requires c =
    let at = c.loop-j in
    rw at.invariant.1 (shifts_lt 9 feedback at.j _ (omega arith) c.requires.0)

pub joined-found-requires : goal.joined-found-requires
joined-found-requires c =
    let args = c.args in
    let at = c.loop-j in
    let p = holdsAt args.check args.pattern args.longitudinal args.odd in
    (keep p (below at.j), at.invariant.0, omega (arith, kept_le p at.j, c.loop-j-test.true))

pub loop-j-preserved : goal.loop-j-preserved
unfolding shifts times_x
loop-j-preserved c =
    let args = c.args in
    let at = c.loop-j in
    let p = holdsAt args.check args.pattern args.longitudinal args.odd in
    let told : c.agree.result ≡ p at.j =
    c.agree.ensures
    ∙ ap₂ (λ (s m : ℕ). eqb (args.check ⊕ s) offset && eqb args.longitudinal m) at.invariant.1
    (shl_exact 1 at.j 16 c.requires.1 (omega (arith, c.loop-j-test.true))) in
    let tried : Bool → List ℕ = λ b. keep p (below at.j) ++ cond b (at.j ∷ []) [] in
    let grown : tried c.agree.result ≡ keep p (below (at.j + 1)) =
    ap tried told
    ∙ sym (kept_next p at.j)
    ∙ ap (λ (n : ℕ). keep p (below n)) (sym (add-one at.j)) in (
      elim c.if-agree.branch [
        | then-agree w ↦ w.found-is ∙ w.joined-found.ensures (keep p (below at.j)) at.invariant.0 ∙ ap one_found (ap tried (sym w.if-agree.true) ∙ grown)
        | else-agree w ↦ w.found-is ∙ at.invariant.0 ∙ ap one_found (sym (append-nil _) ∙ ap tried (sym w.if-agree.false) ∙ grown)
      ],
      c.shift-shifted.ensures ∙ ap times_x at.invariant.1 ∙ ap (λ (n : ℕ). shifts 9 feedback n args.pattern) (sym (add-one at.j)),
    )

pub returns-clause-within : goal.returns-clause-within
returns-clause-within c =
    let args = c.args in
    let at = c.loop-j in
    let all : at.j ≡ 9 = omega arith in
    rw (← all) (found_within (holdsAt args.check args.pattern args.longitudinal args.odd) at.j at.found at.invariant.0)
