-- `judge6250::judge::corrected` meets its contract: the errors are taken off where they stand, and each is marked.
-- Assumes nothing.
use mathlib.Core.Path.{◌≡◌, refl, ap, ap₂, ◌∙◌}
use Prim.Native.Nat.{ℕ, ◌+◌, ◌<◌}
use borrow.Author.Rules.{rules}
use lib.ListN.{get_or}
use Rattle.indexed.specs.List.{tabulate}
use Rattle.register.specs.Xor.{◌⊕◌}
use Rattle.rectangular.specs.Correction.{error_at}
use Rattle.group6250.specs.Packed.{values_of}
use Rattle.judge6250.proofs.Corrected.{mark_lt, parity_here, parity_elsewhere, corrected_values, changed_marks}
use Rattle.judge6250.proofs.judge.corrected.Goals.{then-pair-eq-PARITY_TRACK, else-pair-eq-PARITY_TRACK, then-pair-eq-PARITY_TRACK-2, else-pair-eq-PARITY_TRACK-2}
use Rattle.judge6250.proofs.judge.corrected.Goals as goal

pub overflow_add-result : goal.overflow_add-result
overflow_add-result c =
    let args = c.args in
    let first : c.mark.result < 512 = rw c.mark.ensures (mark_lt args.pair.first args.pair.error (search rules)) in
    let second : c.mark-2.result < 512 = rw c.mark-2.ensures (mark_lt args.pair.second args.pair.other (search rules)) in
    search rules

pub returns : goal.returns
returns c =
    let args = c.args in
    let g = args.group in
    let parity1 : c.if-pair-eq-PARITY_TRACK.parity ≡ g.parity ⊕ error_at args.pair.first args.pair.error 8 =
    elim c.if-pair-eq-PARITY_TRACK.branch [
      | then-pair-eq-PARITY_TRACK w ↦ parity_here g.parity c.if-pair-eq-PARITY_TRACK.parity args.pair.first args.pair.error w.if-pair-eq-PARITY_TRACK.true w.parity-is
      | else-pair-eq-PARITY_TRACK w ↦ parity_elsewhere g.parity c.if-pair-eq-PARITY_TRACK.parity args.pair.first args.pair.error w.if-pair-eq-PARITY_TRACK.false w.parity-is
    ] in
    let parity2 : c.if-pair-eq-PARITY_TRACK-2.parity ≡ c.if-pair-eq-PARITY_TRACK.parity ⊕ error_at args.pair.second args.pair.other 8 =
    elim c.if-pair-eq-PARITY_TRACK-2.branch [
      | then-pair-eq-PARITY_TRACK-2 w ↦ parity_here c.if-pair-eq-PARITY_TRACK.parity c.if-pair-eq-PARITY_TRACK-2.parity args.pair.second args.pair.other w.if-pair-eq-PARITY_TRACK-2.true w.parity-is
      | else-pair-eq-PARITY_TRACK-2 w ↦ parity_elsewhere c.if-pair-eq-PARITY_TRACK.parity c.if-pair-eq-PARITY_TRACK-2.parity args.pair.second args.pair.other w.if-pair-eq-PARITY_TRACK-2.false w.parity-is
    ] in
    let values : values_of (record {
      tracks = g.tracks ⊕ c.placed.result ⊕ c.placed-2.result;
      parity = c.if-pair-eq-PARITY_TRACK-2.parity;
    }) ≡ tabulate 9 (λ k. get_or (values_of g) k 0 ⊕ error_at args.pair.first args.pair.error k ⊕ error_at args.pair.second args.pair.other k) =
    ap₂ (λ (x y : ℕ). values_of (record { tracks = g.tracks ⊕ x ⊕ y; parity = c.if-pair-eq-PARITY_TRACK-2.parity }))
    c.placed.ensures c.placed-2.ensures
    ∙ corrected_values g args.pair.first args.pair.error args.pair.second args.pair.other (search rules) (search rules) (search rules) (search rules)
    c.if-pair-eq-PARITY_TRACK-2.parity (parity2 ∙ ap (λ (x : ℕ). x ⊕ error_at args.pair.second args.pair.other 8) parity1) in record {
      values = values;
      changed = ap₂ ◌+◌ c.mark.ensures c.mark-2.ensures
          ∙ changed_marks (λ k. get_or (values_of g) k 0) args.pair.first args.pair.error args.pair.second args.pair.other (search rules) (search rules)
          c.requires.2 _ values (values_of g) (λ k. refl);
    }
