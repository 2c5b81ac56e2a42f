-- `writer800::writer::write_data` meets its contract. The loop's invariant: the first characters are stored and summed.
-- Assumes nothing.
use mathlib.Core.Path.{◌≡◌, refl, sym, ap, ap₂, ◌∙◌}
use mathlib.Core.List.{List, map}
use Prim.Native.Nat.{ℕ, ◌<◌}
use native.Mathlib.Numerals.{add-one}
use native.Mathlib.Omega.{arith}
use lib.Dec.{lit<}
use lib.ListN.{length, get_or, set, length-set, length-map}
use Rattle.indexed.proofs.Front.{front_more, front_all}
use Rattle.indexed.proofs.Map.{get_d_map}
use Rattle.register.specs.Held.{held}
use Rattle.register.specs.Shift.{shifts}
use Rattle.register.specs.Sum.{xor_sum}
use Rattle.register.specs.Xor.{◌⊕◌}
use Rattle.register.proofs.Held.{held_next}
use Rattle.register.proofs.Sum.{sum_ext, sum_last}
use Rattle.cyclic.specs.Constants.{feedback, times_x}
use Rattle.record800.specs.Record.{character_of, check_sum, longitudinal}
use Rattle.writer800.specs.Stored.{stored}
use Rattle.record800.proofs.Recorded.{character_lt}
use Rattle.writer800.proofs.Writing.{check_fits}
use Rattle.writer800.proofs.writer.write_data.Goals as goal

pub loop-k-init : goal.loop-k-init
unfolding held xor_sum
loop-k-init c = (refl, refl, refl, refl)

pub shift-requires : goal.shift-requires
shift-requires c =
    let bytes = c.args.bytes.now in
    check_fits bytes (λ i. (c.type_inv.bytes i).fits) _ _ c.loop-k.invariant.2

pub loop-k-preserved : goal.loop-k-preserved
unfolding times_x shifts
loop-k-preserved c =
    let at = c.loop-k in
    let bytes = c.args.bytes.now in
    let are : (i : ℕ) → get_or bytes i 0 < 256 = λ i. omega (arith, c.type_inv.bytes i) in
    let next = c.character_of-next.ensures in (
      length-set at.characters at.k _ ∙ at.invariant.0,
      ap₂ (λ (l : List ℕ) (x : ℕ). set l at.k x) at.invariant.1
          (next ∙ sym (get_d_map character_of bytes at.k 0 0 c.loop-k-test.true))
          ∙ front_more at.k (map character_of bytes) c.args.characters.now 0 (omega (arith, length-map bytes character_of)) (omega arith),
      ap₂ ◌⊕◌ (c.shift.ensures ∙ ap times_x at.invariant.2) next
          ∙ sym (held_next 9 feedback 0 at.k (λ i. character_of (get_or bytes i 0)) (lit< tt) (λ i h. character_lt _ (are i)))
          ∙ ap (λ (n : ℕ). check_sum n (λ i. character_of (get_or bytes i 0))) (sym (add-one at.k)),
      ap₂ ◌⊕◌ at.invariant.3 next
          ∙ sym (sum_last at.k (λ i. character_of (get_or bytes i 0)))
          ∙ ap (λ (n : ℕ). xor_sum n (λ i. character_of (get_or bytes i 0))) (sym (add-one at.k)),
    )

pub returns : goal.returns
unfolding stored longitudinal
returns c =
    let args = c.args in
    let at = c.loop-k in
    let bytes = args.bytes.now in
    let all : at.k ≡ length bytes = omega arith in record {
      output = (rw all at at.invariant.1) ∙ front_all (length bytes) (map character_of bytes) args.characters.now (sym (length-map bytes character_of));
      check = (
        rw all at at.invariant.2,
        (rw all at at.invariant.3)
            ∙ sum_ext (length bytes) _ _ (λ k h. sym (get_d_map character_of bytes k 0 0 h))
            ∙ ap (λ (k : ℕ). xor_sum k (λ i. get_or (map character_of bytes) i 0)) (sym (length-map bytes character_of)),
      );
    }
