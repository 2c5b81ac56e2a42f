-- `writer6250::writer::write_groups` meets its contract. The loop's invariant: the first `g` groups are stored.
-- Assumes nothing.
use mathlib.Core.Path.{◌≡◌, refl, ap, ◌∙◌}
use Prim.Native.Nat.{ℕ, ◌/◌}
use native.Mathlib.Omega.{arith}
use lib.ListN.{length}
use Rattle.indexed.specs.List.{blocks}
use Rattle.record6250.specs.Record.{first_groups}
use Rattle.writer6250.specs.Stored.{groups_stored}
use Rattle.writer6250.proofs.Stored.{full_words, one_more}
use Rattle.writer6250.proofs.writer.write_groups.Goals as goal

pub loop-g-init : goal.loop-g-init
unfolding groups_stored first_groups blocks
loop-g-init c = refl

pub loop-g-preserved : goal.loop-g-preserved
loop-g-preserved c =
    let args = c.args in
    let g = c.loop-g.g in
    one_more args.bytes.now args.words.now g c.loop-g.words _ _ c.loop-g.invariant
    (full_words args.bytes.now _ g (omega arith) c.written.ensures) c.store.ensures

pub returns : goal.returns
returns c =
    let args = c.args in
    let all : c.loop-g.g ≡ length args.bytes.now / 7 = omega arith in
    c.loop-g.invariant ∙ ap (λ (g : ℕ). groups_stored g args.bytes.now args.words.now) all
