-- `writer6250::writer::last_group` meets its contract: what is copied are the bytes that no full group has.
-- Assumes nothing.
use mathlib.Core.Path.{◌≡◌, sym, ap, ◌∙◌}
use mathlib.Core.List.{List, ◌++◌}
use Prim.Native.Nat.{ℕ, ◌-◌, ◌%◌}
use native.Mathlib.Omega.{arith}
use lib.ListN.{length, drop, set, replicate, length-drop}
use Rattle.indexed.proofs.Part.{part_to_end}
use Rattle.writer6250.proofs.Body.{last_group_is, last_set}
use Rattle.writer6250.proofs.writer.last_group.Goals as goal

pub returns : goal.returns
returns c =
    let bytes = c.args.bytes.now in
    let left : ℕ = length bytes % 7 in
    let start : ℕ = length bytes - left in
    let long : length (drop start bytes) ≡ left = length-drop start bytes ∙ omega arith in
    ap (λ (l : List ℕ). set (l ++ drop left (replicate 7 0)) 6 (6 - left)) (c.copy_from_slice.ensures.after ∙ part_to_end start bytes)
    ∙ last_set (drop start bytes) left (6 - left) long (omega arith)
    ∙ sym (last_group_is bytes)
