-- `reader800::reader::store` meets its contract. The loop's invariant: the first `k` bytes are stored.
-- Assumes nothing.
use mathlib.Core.Path.{◌≡◌, sym, ap, ap₂, ◌∙◌}
use mathlib.Core.List.{List, ◌++◌}
use Prim.Native.Nat.{ℕ, ◌-◌, ◌*◌, ◌%◌, ◌^◌, ◌<◌}
use native.Mathlib.Omega.{arith}
use lib.ListN.{length, drop, set, length-set}
use lib.Pow.{shl_exact}
use Rattle.indexed.proofs.Front.{front_more, front_all}
use Rattle.indexed.proofs.Tabulate.{length_tabulate, get_d_tabulate}
use Rattle.register.specs.Parity.{parity}
use Rattle.register.specs.Xor.{◌⊕◌}
use Rattle.record800.specs.Read.{picture, wrong, candidate}
use Rattle.reader800.specs.Stored.{stored_data}
use Rattle.record800.proofs.Candidate.{expected_odd, wrong_lt}
use Rattle.record800.proofs.Picture.{picture_below}
use Rattle.scan800.proofs.Passing.{passes}
use Rattle.reader800.proofs.reader.store.Goals as goal

pub parity_wrong-off-requires : goal.parity_wrong-off-requires
parity_wrong-off-requires c = rw c.character-next.ensures (picture_below _ _ (passes c.args.passed.now) c.loop-k.k)

pub loop-k-preserved : goal.loop-k-preserved
unfolding stored_data candidate wrong
loop-k-preserved c =
    let at = c.loop-k in
    let reading = c.args.passed.now.reading in
    let bit = c.unwrap_or-bit.result in
    let is_bit : bit < 10 = rw c.unwrap_or-bit.ensures c.requires.0 in
    let n = length reading.characters.now - 2 in
    let l = picture reading.backward reading.characters.now in
    let next = c.character-next.ensures in
    let taken = rw c.data_length-k-end.ensures at c.loop-k-test.true in
    let off = c.parity_wrong-off.ensures ∙ ap₂ ◌⊕◌ (ap parity next) (sym (expected_odd n l at.k taken)) in
    let shifted = shl_exact 1 bit 16 (rw off (wrong_lt n l at.k)) (omega (arith, is_bit)) ∙ ap (λ (w : ℕ). w * 2 ^ bit) off in (
      length-set at.output at.k _ ∙ at.invariant.0,
      ap₂ (λ (m : List ℕ) (x : ℕ). set m at.k x) at.invariant.1
          (ap₂ (λ (x y : ℕ). (x ⊕ y) % 256) next shifted ∙ sym (get_d_tabulate n _ at.k 0 taken))
          ∙ front_more at.k _ c.args.output.now 0 (rw (length_tabulate n) taken) (omega (arith, c.requires.1)),
    )

pub returns : goal.returns
unfolding stored_data
returns c =
    let args = c.args in
    let reading = args.passed.now.reading in
    let n = length reading.characters.now - 2 in
    let all : c.loop-k.k ≡ n = omega (arith, c.data_length-k-end.ensures) in
    let stored : ℕ → List ℕ = λ t. stored_data n (picture reading.backward reading.characters.now) t in
    (rw all at c.loop-k.invariant.1)
    ∙ front_all n (stored c.unwrap_or-bit.result) args.output.now (sym (length_tabulate n _))
    ∙ ap (λ (t : ℕ). stored t ++ drop n args.output.now) c.unwrap_or-bit.ensures
