-- The text of a listing, from what the writer answered and stored.
-- Assumes nothing.
use Prim.Native.Nat.{ℕ, ◌*◌, ◌≤◌}
use mathlib.Core.Path.{◌≡◌, sym, ap, ◌∙◌}
use mathlib.Core.List.{List, [], ◌∷◌, ◌++◌}
use native.Mathlib.Omega.{arith}
use lib.ListN.{length, drop, get_or, get_or-append}
use Rattle.answer.specs.Answer.{Answer, delivered, number_of, told_written, output_after}
use Rattle.answer.specs.declared.Refusal.{Refusal}
use Rattle.answer_text.specs.Refusal.{refusal_text}
use Rattle.rectangular.specs.Constants.{numbers_per_group}
use Rattle.record6250.specs.Record.{written_record, groups_for}
use Rattle.record6250.specs.Written.{write_answer}
use Rattle.record6250.proofs.Answer.{written_passed}
use Rattle.record6250.proofs.Record.{length_record}
use Rattle.std.specs.Prelude.{Result, Ok, Err}
use Rattle.page.specs.Page.{PageText}
use Rattle.streams.specs.Message.{unread_text}
use Rattle.streams.specs.Ended.{Prints, Tells}
use Rattle.streams.specs.declared.Text.{Text}
use Rattle.streams.specs.declared.Text.TheVariants.{Output, Message}
use Rattle.listing.specs.Listing.{record_text, answer_text, listing_text, most_words, Listed}
use Rattle.listing.proofs.Lines.{record_same}

module _ (bytes : List ℕ) (r : Result ℕ Refusal) (told : told_written r ≡ write_answer (length bytes) most_words) where
  module _ (groups : ℕ) (e : r ≡ Ok groups) where
    answered : write_answer (length bytes) most_words ≡ delivered (groups ∷ [])
    answered = sym told ∙ ap told_written e

    many : groups ≡ groups_for (length bytes)
    many = let same = (written_passed (length bytes) most_words (groups ∷ []) answered).0 in cc

    pub enough : numbers_per_group * groups ≤ most_words
    enough = omega (arith, many, (written_passed (length bytes) most_words (groups ∷ []) answered).1)

    pub delivered_text : (before after : List ℕ) → after ≡ output_after (told_written r) (written_record bytes) before → record_text after groups ≡ listing_text bytes
    unfolding output_after
    delivered_text before after stored =
        let words : after ≡ written_record bytes ++ drop (length (written_record bytes)) before = stored ∙ ap (λ (a : Answer). output_after a (written_record bytes) before) (ap told_written e) in
        record_same groups after (written_record bytes) (λ k b.
        ap (λ (l : List ℕ). get_or l k 0) words ∙ get_or-append (written_record bytes) _ 0 k (omega (arith, many, length_record bytes)))
        ∙ sym (ap (answer_text (written_record bytes)) answered)

  pub refused_text : (refusal : Refusal) → r ≡ Err refusal → refusal_text (number_of refusal.reason) refusal.place ≡ listing_text bytes
  refused_text refusal e = ap (answer_text (written_record bytes)) (sym (ap told_written e) ∙ told)

module _ (page : PageText) where
  pub listed_text : (bytes : List ℕ) (r : Text) → Prints (listing_text bytes) page r → Listed page r
  listed_text bytes Output h = (bytes, h)
  listed_text bytes Message h = absurd h

  pub listed_message : (number : ℕ) (r : Text) → Tells (unread_text number) page r → Listed page r
  listed_message number Output h = absurd h
  listed_message number Message h = (number, h)
