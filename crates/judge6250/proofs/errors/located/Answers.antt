-- `judge6250::errors::located` meets its contract. The loop's invariant: the register is S1, shifted once for each track that was
-- passed, and none of those accounts for S2.
-- Assumes nothing.
use mathlib.Core.Path.{◌≡◌, refl, sym, ap, ◌∙◌}
use mathlib.Core.Bool.{Bool}
use Prim.Native.Nat.{ℕ, ◌<◌}
use native.Mathlib.Decide.{ℕ_discrete}
use native.Mathlib.Nat.{le_of_eq}
use native.Mathlib.Numerals.{add-one}
use native.Mathlib.Omega.{arith}
use borrow.Author.Count.{below_none, below_more}
use borrow.Author.Tests.{eq-eqb, ne_eqb}
use lib.Dec.{eqb}
use Rattle.std.specs.Bool.{then_some}
use Rattle.indexed.specs.List.{below, first_below, index_in}
use Rattle.register.specs.Shift.{shifts}
use Rattle.rectangular.specs.Constants.{feedback, times_t}
use Rattle.rectangular.specs.Syndrome.{weighed, first_accounting}
use Rattle.rectangular.proofs.Syndrome.{weighed_low, weighed_parity}
use Rattle.indexed.proofs.Below.{first_below_at, first_below_none}
use Rattle.indexed.proofs.Found.{index_found, none_found}
use Rattle.judge6250.proofs.errors.located.Invariants.{Fails}
use Rattle.judge6250.proofs.errors.located.Goals as goal

-- with none of the tracks before P, P accounts for an S2 of 0
in_parity : (s1 s2 : ℕ) → ((k : ℕ) → k < 8 → Fails s1 s2 k) → then_some (eqb s2 0) 8 ≡ index_in 9 (first_accounting 8 feedback s1 s2 (below 9))
unfolding first_accounting first_below
in_parity s1 s2 none = by (ℕ_discrete s2 0)
  where
    by : Dec (s2 ≡ 0) → then_some (eqb s2 0) 8 ≡ index_in 9 (first_accounting 8 feedback s1 s2 (below 9))
    by (yes z) =
        ap (λ (b : Bool). then_some b 8) (eq-eqb s2 0 z)
        ∙ index_found 9 _ 8
        (first_below_at 9 (λ k. eqb (weighed 8 feedback k s1) s2) 8 (omega arith) none
        (eq-eqb _ _ (weighed_parity 8 feedback 8 _ (omega arith) ∙ sym z)))
        (omega arith)
    by (no ne) =
        ap (λ (b : Bool). then_some b 8) (ne_eqb s2 0 ne)
        ∙ none_found 9 _
        (le_of_eq (sym (first_below_none 9 (λ k. eqb (weighed 8 feedback k s1) s2)
        (λ j h. below_more (Fails s1 s2) 8 none (ne_eqb _ _ (λ e. ne (sym e ∙ weighed_parity 8 feedback 8 _ (omega arith)))) j (omega arith)))))

pub loop-track-init : goal.loop-track-init
unfolding shifts
loop-track-init c = (refl, below_none (Fails c.args.s1 c.args.s2))

pub returns-then-code-s2 : goal.returns-then-code-s2
unfolding first_accounting first_below
returns-then-code-s2 c =
    let at = c.loop-track in
    let args = c.args in
    index_found 9 _ at.track
    (first_below_at 9 (λ k. eqb (weighed 8 feedback k args.s1) args.s2) at.track (omega arith) at.invariant.1
    (eq-eqb _ _ (weighed_low 8 feedback at.track _ c.loop-track-test.true ∙ sym at.invariant.0 ∙ c.if-code-s2.true)))
    (omega arith)

pub loop-track-preserved : goal.loop-track-preserved
unfolding shifts times_t
loop-track-preserved c =
    let at = c.loop-track in
    let args = c.args in (
      c.shifted-code.ensures ∙ ap times_t at.invariant.0 ∙ ap (λ (n : ℕ). shifts 8 feedback n args.s1) (sym (add-one at.track)),
      below_more (Fails args.s1 args.s2) at.track at.invariant.1
          (ne_eqb _ _ (λ e. c.if-code-s2.false (at.invariant.0 ∙ sym (weighed_low 8 feedback at.track _ c.loop-track-test.true) ∙ e))),
    )

pub returns : goal.returns
returns c =
    let at = c.loop-track in
    let args = c.args in
    let all : at.track ≡ 8 = omega arith in
    c.then_some.ensures ∙ in_parity args.s1 args.s2 (rw all at at.invariant.1)
