-- What a reading's answer promises: the answer and the output are the definition's, and the notice's terms follow.
-- Assumes nothing.
use mathlib.Core.Bool.{Bool}
use mathlib.Core.List.{List}
use mathlib.Core.Path.{◌≡◌}
use Prim.Native.Nat.{ℕ, ◌-◌}
use lib.Dec.{leb}
use lib.ListN.{length}
use Rattle.answer.specs.Answer.{Answer, refused, output_after}
use Rattle.cyclic.specs.Constants.{checks}
use Rattle.record800.specs.Read as Read
use Rattle.terms.proofs.Terms.{with_terms, refused_with_terms}
use Rattle.terms.specs.Call.{read, answer_to, result_of}
use Rattle.terms.specs.Reading.{at800, read_answer, read_data}
use Rattle.terms.specs.Terms.{Terms}

module _ (backward : Bool) (characters : List ℕ) (told : Answer) (before : List ℕ) where
  abbrev Promised : List ℕ → Type 0
  Promised after =
      (told ≡ Read.read_answer backward characters (length before))
      × ((after ≡ output_after told (Read.read_data backward characters) before) × Terms (read (at800 backward characters)) told before after)

  pub promised : (after : List ℕ) → told ≡ Read.answer_if backward characters (leb (length characters - checks) (length before))
      → after ≡ output_after told (Read.read_data backward characters) before → Promised after
  unfolding answer_to result_of read_answer read_data Read.read_answer
  promised after answers stores = with_terms told before after (read (at800 backward characters)) answers stores

  -- a refusal leaves the output
  pub refuses : (number place : ℕ) → told ≡ refused number place
      → Read.answer_if backward characters (leb (length characters - checks) (length before)) ≡ refused number place → Promised before
  unfolding answer_to result_of read_answer read_data Read.read_answer
  refuses number place tells is = refused_with_terms told before (read (at800 backward characters)) number place tells is
