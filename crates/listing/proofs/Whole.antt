-- The listing of data of which one byte more was read than a record holds, or all.
-- Assumes nothing.
use Prim.Native.Nat.{ℕ, ◌≤◌, ◌<◌}
use mathlib.Core.Path.{◌≡◌, refl, sym, ap, ◌∙◌}
use mathlib.Core.Bool.{Bool, true, false}
use mathlib.Core.List.{List, [], ◌++◌}
use native.Mathlib.Omega.{arith}
use borrow.Author.Tests.{lt-leb, leb-true, leb-false}
use lib.Dec.{leb}
use lib.ListN.{length, length-append}
use Rattle.std.proofs.Common.{Option, None, Some, append-nil}
use Rattle.std.specs.Prelude.{IfSome}
use Rattle.std.specs.Io.KnownBytes.{Consumes, IsAtEnd}
use Rattle.answer.specs.Answer.{refused_for}
use Rattle.answer.specs.declared.Reason.TheVariants.{Length}
use Rattle.rectangular.specs.Constants.{most_data}
use Rattle.record6250.specs.Written.{write_answer}
use Rattle.page.specs.Page.{PageText}
use Rattle.streams.specs.Message.{unread_text}
use Rattle.streams.specs.Ended.{Prints, Tells}
use Rattle.streams.specs.declared.Text.{Text}
use Rattle.streams.specs.declared.Text.TheVariants.{Output, Message}
use Rattle.listing.specs.Listing.{answer_text, listing_text, ListedOf}

-- data that are too long are refused, whatever they are
too_long : (bytes : List ℕ) → most_data < length bytes → listing_text bytes ≡ answer_text [] (refused_for Length 0)
unfolding write_answer
too_long bytes long = rw (lt-leb _ _ long) refl

-- what came is all, or too long as all is
all_listed : (bytes rest : List ℕ) → (length bytes ≤ most_data → rest ≡ []) → listing_text bytes ≡ listing_text (bytes ++ rest)
all_listed bytes rest end = by (leb (length bytes) most_data) refl
  where
    by : (b : Bool) → leb (length bytes) most_data ≡ b → listing_text bytes ≡ listing_text (bytes ++ rest)
    by true e = ap listing_text (sym (ap (λ l. bytes ++ l) (end (leb-true _ _ e)) ∙ append-nil bytes))
    by false e =
        let long : most_data < length bytes = leb-false _ _ e in
        too_long bytes long ∙ sym (too_long (bytes ++ rest) (omega (arith, length-append bytes rest)))

pub whole_listing : (bytes : List ℕ) (left left' : Option (List ℕ)) → Consumes left left' bytes → (length bytes ≤ most_data → IsAtEnd left') → IfSome left (λ all. listing_text bytes ≡ listing_text all)
whole_listing bytes None left' e end = tt
whole_listing bytes (Some all) None e end = absurd e
whole_listing bytes (Some all) (Some rest) e end = all_listed bytes rest end ∙ ap listing_text (sym e)

module _ (page : PageText) (left : Option (List ℕ)) where
  pub listed_whole : (bytes : List ℕ) (r : Text) → Prints (listing_text bytes) page r → IfSome left (λ all. listing_text bytes ≡ listing_text all) → IfSome left (λ all. ListedOf all page r)
  listed_whole bytes r h same = of left same
    where
      put : (all : List ℕ) (r : Text) → listing_text bytes ≡ listing_text all → Prints (listing_text bytes) page r → ListedOf all page r
      put all Output e h = rw (sym e) h
      put all Message e h = absurd h

      of : (left : Option (List ℕ)) → IfSome left (λ all. listing_text bytes ≡ listing_text all) → IfSome left (λ all. ListedOf all page r)
      of None e = tt
      of (Some all) e = put all r e h

  pub told_whole : (number : ℕ) (r : Text) → Tells (unread_text number) page r → IfSome left (λ all. ListedOf all page r)
  told_whole number r h = of left
    where
      put : (all : List ℕ) (r : Text) → Tells (unread_text number) page r → ListedOf all page r
      put all Output h = absurd h
      put all Message h = (number, h)

      of : (left : Option (List ℕ)) → IfSome left (λ all. ListedOf all page r)
      of None = tt
      of (Some all) = put all r h
