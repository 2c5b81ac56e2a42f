-- A permutation's inverse is one too, and what is arranged by both in turn is restored.
-- Assumes nothing.
use mathlib.Core.Path.{◌≡◌, sym, ap, subst, ◌∙◌}
use mathlib.Core.List.{List}
use Prim.Native.Nat.{ℕ, ◌<◌}
use native.Mathlib.Omega.{arith}
use borrow.Author.Tests.{eq-eqb, ne_eqb, eqb-true}
use lib.Dec.{eqb}
use lib.ListN.{length, get_or}
use lib.Seq.{ext_get_or}
use Rattle.indexed.proofs.First.{first_at, first_passes}
use Rattle.indexed.proofs.Tabulate.{length_tabulate, get_d_tabulate}
use Rattle.track_order.specs.Order.{index_in, inverse, Permutation, arranged}

-- ---- nine elements at their places

pub length_arranged : (places elements : List ℕ) → length (arranged places elements) ≡ 9
unfolding arranged
length_arranged places elements = length_tabulate 9 _

pub get_or_arranged : (places elements : List ℕ) (k : ℕ) → k < 9 → get_or (arranged places elements) k 0 ≡ get_or elements (get_or places k 0) 0
unfolding arranged
get_or_arranged places elements k h = get_d_tabulate 9 _ k 0 h

pub same_nine : (l m : List ℕ) → length l ≡ 9 → length m ≡ 9 → ((k : ℕ) → k < 9 → get_or l k 0 ≡ get_or m k 0) → l ≡ m
same_nine l m nine nine-too same = ext_get_or 0 l m (nine ∙ sym nine-too) (λ k h. same k (subst (λ (n : ℕ). k < n) nine h))

module _ (places : List ℕ) (p : Permutation places) where
  -- where an algebraic track stands, it stands
  pub at_index : (a : ℕ) → index_in places a < 9 → get_or places (index_in places a) 0 ≡ a
  unfolding index_in
  at_index a h = eqb-true _ _ (first_passes _ places (subst (λ (n : ℕ). index_in places a < n) (sym p.nine) h))

  -- ---- the inverse

  pub length_inverse : length (inverse places) ≡ 9
  unfolding inverse
  length_inverse = length_tabulate 9 _

  pub get_or_inverse : (a : ℕ) → a < 9 → get_or (inverse places) a 0 ≡ index_in places a
  unfolding inverse
  get_or_inverse a h = get_d_tabulate 9 _ a 0 h

  pub inverse_below : (a : ℕ) → a < 9 → get_or (inverse places) a 0 < 9
  inverse_below a h = rw (get_or_inverse a h) (p.onto a h)

  index_inverse : (k : ℕ) → k < 9 → index_in (inverse places) k ≡ get_or places k 0
  unfolding index_in
  index_inverse k h =
      first_at (λ b. eqb b k) (inverse places) (get_or places k 0) (rw length_inverse (p.below k h))
      (λ j less. ne_eqb _ _ (λ e. other j less (sym (get_or_inverse j (omega (arith, p.below k h))) ∙ e)))
      (eq-eqb _ _ (get_or_inverse (get_or places k 0) (p.below k h) ∙ p.once k h))
    where
      other : (j : ℕ) → j < get_or places k 0 → index_in places j ≡ k → ⊥
      other j less e =
          let there : get_or places k 0 ≡ j = ap (λ (i : ℕ). get_or places i 0) (sym e) ∙ at_index j (rw e h) in
          omega arith

  pub inverse_permutation : Permutation (inverse places)
  inverse_permutation = record {
    nine = length_inverse;
    below = inverse_below;
    once = λ k h.
        index_inverse (get_or (inverse places) k 0) (inverse_below k h)
        ∙ ap (λ (i : ℕ). get_or places i 0) (get_or_inverse k h)
        ∙ at_index k (p.onto k h);
    onto = λ a h. rw (index_inverse a h) (p.below a h);
  }

  -- ---- out and back

  pub out_and_back : (elements : List ℕ) → length elements ≡ 9 → arranged (inverse places) (arranged places elements) ≡ elements
  out_and_back elements nine =
      same_nine _ elements (length_arranged (inverse places) (arranged places elements)) nine
      (λ k h. get_or_arranged (inverse places) (arranged places elements) k h
      ∙ get_or_arranged places elements (get_or (inverse places) k 0) (inverse_below k h)
      ∙ ap (λ (a : ℕ). get_or elements a 0) (ap (λ (i : ℕ). get_or places i 0) (get_or_inverse k h) ∙ at_index k (p.onto k h)))

  -- the places are the inverse of their inverse
  pub inverse_inverse : inverse (inverse places) ≡ places
  unfolding inverse
  inverse_inverse =
      same_nine (inverse (inverse places)) places (length_tabulate 9 _) p.nine (λ k h. get_d_tabulate 9 _ k 0 h ∙ index_inverse k h)
