-- `writer6250::group::store` meets its contract. The loop's invariant: the words from place `j` on are stored.
-- Assumes nothing.
use mathlib.Core.Path.{◌≡◌, sym, ap, ap₂, ◌∙◌}
use mathlib.Core.List.{List, ◌++◌}
use Prim.Native.Nat.{ℕ, ◌+◌, ◌-◌, ◌<◌}
use native.Mathlib.Omega.{arith}
use borrow.Author.Rules.{rules}
use lib.ListN.{length, set, drop, length-append, get_or-append}
use Rattle.indexed.proofs.Front.{front, front_less, front_none}
use Rattle.group_code.specs.Code.{word_of}
use Rattle.writer6250.proofs.Words.{coded, length_coded, coded_at, complemented, complemented_coded}
use Rattle.writer6250.proofs.group.store.Goals as goal

pub loop-j-init : goal.loop-j-init
loop-j-init c = let recorded = complemented c.args.group in front_none 9 (coded recorded) c.args.words.now (length_coded recorded)

pub loop-j-preserved : goal.loop-j-preserved
loop-j-preserved c =
    let words : List ℕ = c.args.words.now in
    let recorded = complemented c.args.group in
    let whole : List ℕ = coded recorded ++ drop 9 words in
    let k : ℕ = c.loop-j.j - 1 in
    let stored : k < length (coded recorded) = omega (arith, length_coded recorded) in
    let next : c.loop-j.j ≡ k + 1 = omega arith in
    ap₂ (λ (l : List ℕ) (w : ℕ). set l k w) (c.loop-j.invariant ∙ ap (λ (j : ℕ). front j words whole) next)
    (c.word.ensures
    ∙ ap word_of c.value.ensures
    ∙ sym (coded_at recorded k (search rules))
    ∙ sym (get_or-append (coded recorded) (drop 9 words) 0 k stored))
    ∙ front_less k words whole 0 (omega (arith, c.requires)) (omega (arith, length-append (coded recorded) (drop 9 words)))

pub returns : goal.returns
returns c =
    let words : List ℕ = c.args.words.now in
    let recorded = complemented c.args.group in
    let none : c.loop-j.j ≡ 0 = omega arith in
    c.loop-j.invariant
    ∙ ap (λ (k : ℕ). front k words (coded recorded ++ drop 9 words)) none
    ∙ ap (λ (l : List ℕ). l ++ drop 9 words) (complemented_coded c.args.group)
