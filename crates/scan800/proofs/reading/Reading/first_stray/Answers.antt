-- `scan800::reading::Reading::first_stray` meets its contract. The loop's invariant: none of the characters passed is above 511.
-- Assumes nothing.
use mathlib.Core.Path.{◌≡◌, sym, ap, ◌∙◌}
use native.Mathlib.Nat.{le_of_eq}
use native.Mathlib.Omega.{arith}
use borrow.Author.Tests.{lt-ltb}
use lib.Dec.{ltb}
use lib.ListN.{length}
use Rattle.indexed.proofs.First.{first_at, first_none}
use Rattle.slices.specs.Above.{first_above}
use Rattle.record800.specs.Read.{picture, first_stray}
use Rattle.record800.proofs.Picture.{length_picture, none_stray}
use Rattle.indexed.proofs.Found.{index_found, none_found}
use Rattle.scan800.proofs.reading.Reading.first_stray.Goals as goal

pub returns-then-union-le-MOST_CHARACTER : goal.returns-then-union-le-MOST_CHARACTER
returns-then-union-le-MOST_CHARACTER c =
    none_found _ _ (le_of_eq (sym (none_stray _ _ (rw (← c.union.ensures) (omega (arith, c.if-union-le-MOST_CHARACTER.true))))))

pub returns-then-character-gt-MOST_CHARACTER : goal.returns-then-character-gt-MOST_CHARACTER
unfolding first_stray first_above
returns-then-character-gt-MOST_CHARACTER c =
    let found = first_at (λ v. ltb 511 v) _ _ (rw length_picture c.loop-k-test.true) c.loop-k.invariant
    (ap (ltb 511) (sym c.character.ensures) ∙ lt-ltb _ _ c.if-character-gt-MOST_CHARACTER.true) in
    index_found _ _ _ found c.loop-k-test.true

pub returns : goal.returns
unfolding first_stray first_above
returns c =
    let at = c.loop-k in
    let reading = c.args.self.now in
    let all : at.k ≡ length reading.characters.now = omega arith in
    none_found _ _
    (le_of_eq (sym (first_none (λ v. ltb 511 v) (picture reading.backward reading.characters.now) at.k (all ∙ sym (length_picture _ _)) at.invariant ∙ all)))
