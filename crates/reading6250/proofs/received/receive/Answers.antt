-- `reading6250::received::receive` meets its contract. The loop's invariant: the first `k` words are gathered, and none of them is
-- illegal if their readings together are below 256.
-- Assumes nothing.
use mathlib.Core.Path.{◌≡◌, refl, sym, ap, ◌∙◌}
use Prim.Native.Nat.{ℕ, ◌+◌}
use native.Mathlib.Omega.{arith}
use Rattle.indexed.specs.List.{tabulate, tabulate_from}
use Rattle.register.specs.Bit.{of_bits}
use Rattle.register.specs.Xor.{◌⊕◌}
use Rattle.reading6250.proofs.Packing.{packed}
use Rattle.reading6250.proofs.Receiving.{words_at, value_there, mark_there, packed_fits, more_packed, more_seen, all_values, all_marks}
use Rattle.reading6250.proofs.received.receive.Goals as goal

pub loop-k-init : goal.loop-k-init
unfolding packed of_bits tabulate tabulate_from
loop-k-init c = (refl, λ j e. absurd (omega arith), λ h. refl)

pub loop-k-preserved : goal.loop-k-preserved
loop-k-preserved c =
    let at = c.loop-k in
    let value = value_there c.args.backward c.readings-table.ensures (c.requires.1 (c.args.at + at.k)) in (
      more_packed _ at.k at.invariant.0 value c.placed-tracks.ensures,
      λ j e. let same : j ≡ at.k = omega arith in rw same value,
      more_seen _ at.k _ at.invariant.2 (mark_there _ c.readings-table.ensures (c.requires.1 _)),
    )

pub overflow_add-tracks : goal.overflow_add-tracks
overflow_add-tracks c = record { fits = rw (loop-k-preserved c).0 (packed_fits _ _ (omega arith)) }

pub returns-then-seen-lt256 : goal.returns-then-seen-lt256
returns-then-seen-lt256 c =
    let at = c.loop-k in
    let all : at.k ≡ 9 = omega arith in
    let args = c.args in
    let are = words_at args.backward args.words.now args.at in
    record {
      values = all_values _ _ are _ (rw all at at.invariant.0) (ap (λ (p : ℕ). p ⊕ 255) (at.invariant.1 8 (omega arith)));
      illegal = sym (rw all at (at.invariant.2 c.if-seen-lt256.true)) ∙ all_marks _ _ are;
    }

pub illegal_tracks-requires : goal.illegal_tracks-requires
illegal_tracks-requires c = c.requires

pub returns : goal.returns
returns c =
    let at = c.loop-k in
    let all : at.k ≡ 9 = omega arith in
    let args = c.args in
    record {
      values = all_values _ _ (words_at args.backward args.words.now args.at) _ (rw all at at.invariant.0) (ap (λ (p : ℕ). p ⊕ 255) (at.invariant.1 8 (omega arith)));
      illegal = c.illegal_tracks.ensures;
    }
