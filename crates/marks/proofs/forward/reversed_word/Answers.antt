-- `marks::forward::reversed_word` meets its contract. The loop's invariant: the first k bits are turned.
-- Assumes nothing.
use Prim.Native.Nat.{ℕ}
use mathlib.Core.Path.{◌≡◌, refl, ap, ◌∙◌}
use native.Mathlib.Numerals.{add-one}
use native.Mathlib.Omega.{arith}
use borrow.Author.Tests.{lt-ltb, le-ltb}
use Rattle.indexed.specs.List.{tabulate, tabulate_from}
use Rattle.register.specs.Bit.{of_bits}
use Rattle.register.proofs.Bit.{bit_lt}
use Rattle.group_code.specs.Word.{mirrored, reversed_word}
use Rattle.marks.proofs.Turned.{mirrored_more, mirrored_small}
use Rattle.marks.proofs.forward.reversed_word.Goals as goal

pub returns-then-word-gt-MOST_WORD : goal.returns-then-word-gt-MOST_WORD
unfolding reversed_word
returns-then-word-gt-MOST_WORD c = simp (lt-ltb _ _ c.if-word-gt-MOST_WORD.true)

pub loop-k-init : goal.loop-k-init
unfolding mirrored tabulate tabulate_from of_bits
loop-k-init c = refl

pub overflow_mul-reversed : goal.overflow_mul-reversed
overflow_mul-reversed c = let l = c.loop-k in omega (arith, mirrored_small l.k c.args.word c.loop-k-test.true)

pub overflow_add-reversed : goal.overflow_add-reversed
overflow_add-reversed c =
    let l = c.loop-k in
    let word = c.args.word in
    omega (arith, mirrored_small l.k word c.loop-k-test.true, bit_lt l.k word)

pub loop-k-preserved : goal.loop-k-preserved
loop-k-preserved c =
    let l = c.loop-k in
    let word = c.args.word in
    omega (arith, mirrored_more l.k word, ap (λ (j : ℕ). mirrored j word) (add-one l.k))

pub returns : goal.returns
unfolding reversed_word
returns c =
    let l = c.loop-k in
    let word = c.args.word in
    let all : l.k ≡ 10 = omega arith in
    simp (le-ltb _ _ c.if-word-gt-MOST_WORD.false) (l.invariant ∙ ap (λ (j : ℕ). mirrored j word) all)
