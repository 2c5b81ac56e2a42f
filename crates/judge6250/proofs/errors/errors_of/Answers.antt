-- `judge6250::errors::errors_of` meets its contract: the counts of the map's bits are its pointed tracks.
-- Assumes nothing.
use mathlib.Core.Path.{◌≡◌, sym, ap, ◌∙◌}
use mathlib.Core.Bool.{Bool, true, false}
use mathlib.Core.List.{[], ◌∷◌}
use Prim.Native.Nat.{ℕ, ◌-◌, ◌<◌}
use native.Mathlib.Omega.{arith}
use borrow.Author.Rules.{rules}
use lib.Bits.{bit_and}
use lib.Count.{count_trailing_zeros, trailing_le}
use lib.ListN.{length}
use Rattle.rectangular.specs.Constants.{feedback, exponent}
use Rattle.rectangular.specs.Correction.{pointed_tracks}
use Rattle.rectangular.specs.Relied.{relied_on}
use Rattle.rectangular.specs.Syndrome.{errors_of}
use Rattle.judge6250.proofs.Judging.{one_anywhere, pointed_count, counts_one, counts_two, counts_many, one_pointed, two_pointed, many_pointed_lem}
use Rattle.rectangular.proofs.Pointed.{pointed_lt, pointed_ascends, none_pointed}
use Rattle.rectangular.proofs.Relied.{relied_none, relied_one, relied_others, is_one, illegal_not_one, others_not_one}
use Rattle.judge6250.proofs.errors.errors_of.Goals as goal

pub returns-then-pointers-eq0 : goal.returns-then-pointers-eq0
unfolding errors_of
returns-then-pointers-eq0 c =
    let args = c.args in
    let none = ap (relied_on args.legal) c.if-pointers-eq0.true ∙ relied_none args.legal in
    c.anywhere.ensures
    ∙ one_anywhere args.s1 args.s2 _ c.located.ensures
    ∙ sym (ap (errors_of 8 feedback exponent args.s1 args.s2) (ap (pointed_tracks 9) none ∙ none_pointed 9))

pub overflow_cast-first : goal.overflow_cast-first
overflow_cast-first c = omega (arith, trailing_le 16 c.args.pointers)

-- one track is pointed
pub overflow_sub-others : goal.overflow_sub-others
overflow_sub-others c = search rules

module _ (m : ℕ) (small : m < 512) (some : m ≡ 0 → ⊥) (alone : bit_and m (m - 1) ≡ 0) where
  the_one : pointed_tracks 9 m ≡ count_trailing_zeros 16 m ∷ []
  the_one = one_pointed m small (counts_one m small some alone)

  one-lt : count_trailing_zeros 16 m < 9
  one-lt = pointed_lt 9 m (count_trailing_zeros 16 m ∷ []) the_one 0 (omega arith)

pub located_likely-requires : goal.located_likely-requires
located_likely-requires c =
    one-lt c.args.pointers c.requires c.if-pointers-eq0.false c.if-others-eq0.true

pub returns-then-legal : goal.returns-then-legal
unfolding errors_of
returns-then-legal c =
    let m = c.args.pointers in
    let one = ap length (the_one m c.requires c.if-pointers-eq0.false c.if-others-eq0.true) in
    c.anywhere-then-legal.ensures
    ∙ one_anywhere c.args.s1 c.args.s2 _ c.located_likely.ensures
    ∙ sym (ap (errors_of 8 feedback exponent c.args.s1 c.args.s2)
    (ap (pointed_tracks 9) (ap (λ (b : Bool). relied_on b m) c.if-legal.true ∙ relied_one true m (is_one m one)) ∙ none_pointed 9))

pub pointed_once-requires : goal.pointed_once-requires
pointed_once-requires c =
    one-lt c.args.pointers c.requires c.if-pointers-eq0.false c.if-others-eq0.true

pub returns-then-others-eq0 : goal.returns-then-others-eq0
unfolding errors_of
returns-then-others-eq0 c =
    let m = c.args.pointers in
    c.pointed_once.ensures
    ∙ sym (ap (errors_of 8 feedback exponent c.args.s1 c.args.s2)
    (ap (pointed_tracks 9) (ap (λ (b : Bool). relied_on b m) c.if-legal.false ∙ relied_others false m (illegal_not_one m))
    ∙ the_one m c.requires c.if-pointers-eq0.false c.if-others-eq0.true))

pub overflow_cast-second : goal.overflow_cast-second
overflow_cast-second c =
    let m = c.args.pointers in
    omega (arith, trailing_le 16 (bit_and m (m - 1)))

pub pointed_twice-requires : goal.pointed_twice-requires
pointed_twice-requires c =
    let m = c.args.pointers in
    let both = count_trailing_zeros 16 m ∷ count_trailing_zeros 16 (bit_and m (m - 1)) ∷ [] in
    let is : pointed_tracks 9 m ≡ both = two_pointed m c.requires (counts_two m c.requires c.if-pointers-eq0.false c.if-others-eq0.false c.if-others-eq0-2.true) in
    (pointed_ascends 9 m both is 0 1 (omega arith) (omega arith), pointed_lt 9 m both is 1 (omega arith))

pub returns-then-others-eq0-2 : goal.returns-then-others-eq0-2
unfolding errors_of
returns-then-others-eq0-2 c =
    let m = c.args.pointers in
    let is = two_pointed m c.requires (counts_two m c.requires c.if-pointers-eq0.false c.if-others-eq0.false c.if-others-eq0-2.true) in
    c.pointed_twice.ensures
    ∙ sym (ap (errors_of 8 feedback exponent c.args.s1 c.args.s2)
    (ap (pointed_tracks 9) (relied_others c.args.legal m (others_not_one m c.args.legal (λ e. omega (arith, e, ap length is)))) ∙ is))

pub returns : goal.returns
returns c =
    let m = c.args.pointers in
    let many = counts_many m c.requires c.if-pointers-eq0.false c.if-others-eq0.false c.if-others-eq0-2.false in
    many_pointed_lem c.args.s1 c.args.s2 m c.requires c.if-pointers-eq0.false (many 1 (omega arith)) (many 2 (omega arith))
    ∙ sym (ap (λ (p : ℕ). errors_of 8 feedback exponent c.args.s1 c.args.s2 (pointed_tracks 9 p))
    (relied_others c.args.legal m (others_not_one m c.args.legal (λ e. many 1 (omega arith) (sym (pointed_count m c.requires) ∙ e)))))
