-- `generator::parts::part` meets its contract: every entry is computed.
-- Assumes nothing.
use mathlib.Core.List.{List, []}
use mathlib.Core.Path.{refl, ap, ◌∙◌}
use Prim.Native.Nat.{ℕ}
use lib.ListN.{get_or}
use borrow.Author.Rules.{rules}
use Rattle.indexed.specs.List.{tabulate, tabulate_from}
use Rattle.indexed.proofs.Tabulate.{ruled, get_d_tabulate}
use Rattle.register.specs.Matrix.{product}
use Rattle.generator.specs.Columns.{part}
use Rattle.generator.proofs.parts.part.Goals as goal

abbrev entries : ℕ → List ℕ
entries k = tabulate 256 (product (part k))

pub returns : goal.returns
unfolding tabulate tabulate_from
returns c =
    let args = c.args in
    ap (λ (l : List ℕ). get_or l args.byte 0) (ruled _ 7 entries refl args.k [] c.requires)
    ∙ get_d_tabulate 256 (product (part args.k)) args.byte 0 (search rules)
