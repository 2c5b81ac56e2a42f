-- `scan6250::corrected::unpack` meets its contract. The loop's invariant: the first `k` bytes are stored.
-- Assumes nothing.
use mathlib.Core.Path.{◌≡◌, refl, sym, ap, ap₂, ◌∙◌}
use Prim.Native.Nat.{ℕ, ◌-◌, ◌*◌, ◌/◌, ◌%◌, ◌^◌, ◌<◌}
use native.Mathlib.Omega.{arith}
use mathlib.Core.List.{List}
use lib.ListN.{get_or, set}
use Rattle.indexed.specs.List.{tabulate}
use Rattle.indexed.proofs.Front.{front, front_more, front_all}
use Rattle.indexed.proofs.Tabulate.{length_tabulate, get_d_tabulate}
use Rattle.rectangular.specs.Group.{column, information_of}
use Rattle.group6250.specs.Packed.{byte_at, bytes_of}
use Rattle.group6250.proofs.Bytes.{byte_of}
use Rattle.scan6250.proofs.corrected.unpack.Goals as goal

-- byte 7 - k of the characters
byte-at : (r tracks : ℕ) → bytes_of r ≡ tabulate 8 (column 8 (λ j. byte_at j tracks)) → (k : ℕ) → k < 7
    → r / 2 ^ (8 * (7 - k)) % 256 ≡ column 8 (λ j. byte_at j tracks) (8 - 1 - k)
unfolding byte_at
byte-at r tracks e k h = byte_of r (column 8 (λ j. byte_at j tracks)) e (7 - k) (omega arith)

pub loop-k-init : goal.loop-k-init
loop-k-init c = refl

pub loop-k-preserved : goal.loop-k-preserved
unfolding information_of
loop-k-preserved c =
    let at = c.loop-k in
    let args = c.args in
    let tracks : ℕ = args.tracks in
    let chosen : ℕ → ℕ = λ k. column 8 (λ j. byte_at j tracks) (8 - 1 - k) in
    let byte : c.transposed-characters.result / 2 ^ (8 * (7 - at.k)) % 256 ≡ get_or (tabulate 7 chosen) at.k 0 =
    byte-at c.transposed-characters.result tracks c.transposed-characters.ensures at.k c.loop-k-test.true
    ∙ sym (get_d_tabulate 7 chosen at.k 0 c.loop-k-test.true) in
    ap₂ (λ (l : List ℕ) (b : ℕ). set l at.k b) at.invariant byte
    ∙ front_more at.k (tabulate 7 chosen) args.bytes.now 0 (omega (arith, length_tabulate 7 chosen)) (omega (arith, c.requires, c.loop-k-test.true))

pub returns : goal.returns
unfolding information_of
returns c =
    let at = c.loop-k in
    let args = c.args in
    let result : List ℕ = information_of 8 (λ j. byte_at j args.tracks) in
    let all : at.k ≡ 7 = omega arith in
    at.invariant
    ∙ ap (λ (k : ℕ). front k result args.bytes.now) all
    ∙ front_all 7 result args.bytes.now (sym (length_tabulate 7 (λ k. column 8 (λ j. byte_at j args.tracks) (8 - 1 - k))))
