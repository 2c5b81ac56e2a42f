-- What is told by a call after the checks of a card.
-- Assumes nothing.
use mathlib.Core.Bool.{Bool, true, false, cond}
use mathlib.Core.List.{List, []}
use mathlib.Core.Path.{◌≡◌, refl, sym, ap, ◌∙◌}
use Prim.Native.Nat.{ℕ, suc}
use lib.Dec.{leb}
use borrow.Author.Tests.{leb-true, leb-false}
use Rattle.std.specs.Prelude.{Result, Ok, Err}
use Rattle.std.specs.Result.{MatchResult, IsErrAnd}
use Rattle.std.proofs.lemmas.Result.{err_from_is_err_and}
use Rattle.answer.specs.Answer.{Answer, delivered, told, told_refusal, output_after, figures_after}
use Rattle.answer.specs.declared.Reason.TheVariants.{CardContent}
use Rattle.answer.specs.declared.Refusal.{Refusal}
use Rattle.track_order.specs.Card.{first_wrong}
use Rattle.track_order.specs.Moved.{if_nine_numbers, if_none_wrong}
use Rattle.track_order.proofs.Moved.{numbers_passed}
use Rattle.track_order.proofs.Rows.{card_nine, card_content, card_right}
use Rattle.head_order.specs.Told.{told_stored}

-- two deliveries of the same have the same figures
pub same_figures : (a b : List ℕ) → delivered a ≡ delivered b → a ≡ b
same_figures a b e = ap (λ (x : Answer). figures_after x []) e

-- nine numbers that are delivered are the card, and what is asked next of them is asked of it
pub numbers_then : (card numbers : List ℕ) (next : List ℕ → Answer) → delivered numbers ≡ if_nine_numbers card (delivered card)
    → next numbers ≡ if_nine_numbers card (next card)
numbers_then card numbers next e =
    let passed = numbers_passed card (delivered card) numbers (sym e) in
    ap next (same_figures _ _ (sym passed.1)) ∙ sym (card_nine card (next card) passed.0)

-- the good card, or the track of its first wrong number for the refusal's place
pub track_told : (card : List ℕ) (found : Result (List ℕ) ℕ) (r : Result (List ℕ) Refusal)
    → found ≡ cond (leb 9 (first_wrong card)) (Ok card) (Err (suc (first_wrong card)))
    → MatchResult found (λ good. r ≡ Ok good) (λ track. IsErrAnd r (λ refusal. refusal ≡ record { reason = CardContent; place = track }))
    → told (λ good. good) r ≡ if_none_wrong card (delivered card)
track_told card found r e = rw e (by (leb 9 (first_wrong card)) refl)
  where
    by : (b : Bool) → leb 9 (first_wrong card) ≡ b
        → MatchResult (cond b (Ok card) (Err (suc (first_wrong card)))) (λ good. r ≡ Ok good)
        (λ track. IsErrAnd r (λ refusal. refusal ≡ record { reason = CardContent; place = track }))
        → told (λ good. good) r ≡ if_none_wrong card (delivered card)
    by true h is = ap (told (λ good. good)) is ∙ sym (card_right card _ (leb-true 9 _ h))
    by false h is =
        let refusal = err_from_is_err_and r is in
        ap (told (λ good. good)) refusal.1 ∙ ap told_refusal refusal.2 ∙ sym (card_content card _ (leb-false 9 _ h))

-- what is stored after a refusal: nothing
pub refused_output : (moved target : List ℕ) (r : Result Unit Refusal) (refusal : Refusal) → r ≡ Err refusal
    → target ≡ output_after (told_stored r []) moved target
unfolding output_after
refused_output moved target r refusal e = ap (λ (x : Result Unit Refusal). output_after (told_stored x []) moved target) (sym e)
