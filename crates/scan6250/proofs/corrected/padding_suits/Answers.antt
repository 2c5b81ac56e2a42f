-- `scan6250::corrected::padding_suits` meets its contract: the bytes before the last are asked as a slice.
-- Assumes nothing.
use mathlib.Core.Path.{◌≡◌, refl, sym, ap, ◌∙◌}
use mathlib.Core.Bool.{Bool, true, false}
use mathlib.Core.List.{List}
use Prim.Native.Nat.{ℕ, ◌-◌, ◌<◌, ◌≤◌}
use native.Mathlib.Omega.{arith}
use borrow.Author.Rules.{rules}
use borrow.Author.Tests.{eq-eqb, ne_eqb}
use lib.ListN.{length, get_or, take, drop, length-drop}
use lib.Seq.{length-take-le}
use Rattle.std.proofs.Common.{MatchBool, tests}
use Rattle.std.proofs.lemmas.List.{get_or-take, get_or-drop}
use Rattle.std.proofs.lemmas.Iterator.{cases_from_all, YieldsList-from_slice}
use Rattle.std.specs.List.{AllWithin, HoldsAt}
use Rattle.record6250.specs.Read.{last_byte, padding_suits}
use Rattle.record6250.proofs.Padding.{last_above, not_zero, all_zero}
use Rattle.scan6250.proofs.corrected.padding_suits.Goals as goal

module _ (bytes : List ℕ) (long : 7 ≤ length bytes) (few : last_byte bytes ≤ 6) where
  -- the bytes that are to be zero
  abbrev last : ℕ
  last = get_or bytes (length bytes - 1) 0

  abbrev asked : List ℕ
  asked = take (length bytes - 1 - (length bytes - 1 - last)) (drop (length bytes - 1 - last) bytes)

  same : last_byte bytes ≡ last
  unfolding last_byte
  same = refl

  asked_at : (k : ℕ) → k < last → get_or asked (last - 1 - k) 0 ≡ get_or bytes (length bytes - 2 - k) 0
  asked_at k h =
      get_or-take (length bytes - 1 - (length bytes - 1 - last)) (drop (length bytes - 1 - last) bytes) (last - 1 - k) 0 (omega (arith, same, few))
      ∙ get_or-drop (length bytes - 1 - last) bytes (last - 1 - k) 0
      ∙ ap (λ (i : ℕ). get_or bytes i 0) (omega (arith, same, few, long))

  asked_long : length asked ≡ last
  asked_long =
      length-take-le (length bytes - 1 - (length bytes - 1 - last)) (drop (length bytes - 1 - last) bytes) (omega (arith, length-drop (length bytes - 1 - last) bytes, same, few, long))
      ∙ omega (arith, same, few, long)

  answered : (r : Bool) → MatchBool r (AllWithin (λ x. x ≡ 0) asked 0 (length asked)) ((k : ℕ) × (k < length asked) × HoldsAt (λ x. x ≡ 0 → ⊥) asked k) → r ≡ padding_suits bytes
  answered true m =
      sym (all_zero bytes few (λ k h. eq-eqb (get_or bytes (length bytes - 2 - k) 0) 0
      (sym (asked_at k (rw same at h)) ∙ m (last - 1 - k) 0 (omega arith) (omega (arith, asked_long, same, h)))))
  answered false (j, h, q) =
      let k : ℕ = last - 1 - j in
      let place : last - 1 - k ≡ j = omega (arith, asked_long, h) in
      sym (not_zero bytes k (omega (arith, asked_long, h, same)) (ne_eqb (get_or bytes (length bytes - 2 - k) 0) 0
      (λ e. q 0 (ap (λ (i : ℕ). get_or asked i 0) (sym place) ∙ asked_at k (omega (arith, asked_long, h)) ∙ e))))

pub returns-then-last-gt-MOST_PADDING : goal.returns-then-last-gt-MOST_PADDING
unfolding last_byte
returns-then-last-gt-MOST_PADDING c =
    sym (last_above c.args.bytes.now c.if-last-gt-MOST_PADDING.true)

pub returns : goal.returns
unfolding last_byte
returns c =
    let bytes = c.args.bytes.now in
    answered bytes c.requires c.if-last-gt-MOST_PADDING.false c.all.result
    (cases_from_all _ _ _ (λ x. x ≡ 0) (λ x. x ≡ 0 → ⊥) c.all.ensures.ran (YieldsList-from_slice (asked bytes c.requires c.if-last-gt-MOST_PADDING.false) cc) (λ x q k. search (rules, tests)) (λ x q k. search (rules, tests)))
