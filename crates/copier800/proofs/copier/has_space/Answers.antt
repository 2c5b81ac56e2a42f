-- `copier800::copier::has_space` meets its contract.
-- Assumes nothing.
use mathlib.Core.Path.{ap, ◌∙◌}
use Prim.Native.Nat.{ℕ, ◌+◌, ◌*◌, ◌/◌}
use lib.Dec.{leb}
use Rattle.record6250.specs.Record.{groups_for}
use Rattle.copier800.proofs.Copying.{space_divided}
use Rattle.copier800.proofs.copier.has_space.Goals as goal

pub returns : goal.returns
unfolding groups_for
returns c =
    let space = c.args.space in
    space_divided (c.data_length-size.result / 7 + 1) space ∙ ap (λ (n : ℕ). leb (9 * (n / 7 + 1)) space) c.data_length-size.ensures
