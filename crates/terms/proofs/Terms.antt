-- The notice's three terms hold of every call whose answer and output are those that its definitions give: what each contract states.
-- Assumes nothing.
use mathlib.Core.List.{List, []}
use mathlib.Core.Path.{◌≡◌, refl, sym, ap, ◌∙◌}
use Prim.Native.Nat.{ℕ}
use lib.ListN.{length}
use Rattle.answer.specs.Answer.{Answer, refused, output_after}
use Rattle.terms.specs.Call.{Call, write, read, log, read_log, move_words, move_map, invert_card, copy, answer_to, result_of}
use Rattle.terms.specs.Terms.{SecondTerm, ThirdTerm, Terms}
use Rattle.terms.proofs.First.{ends}
use Rattle.terms.proofs.Second.{writes, reads}
use Rattle.terms.proofs.Copied.{copies, copy_decides}
use Rattle.terms.proofs.Logged.{logs, logs_again, log_decides}
use Rattle.terms.proofs.Moved.{moves_words, moves_map, inverts}
use Rattle.terms.proofs.Third.{read_decides}

module _ (answer : Answer) (before after : List ℕ) where
  second_term : (call : Call) → answer ≡ answer_to call (length before) → after ≡ output_after answer (result_of call) before
      → SecondTerm call answer before after
  unfolding SecondTerm answer_to result_of
  second_term (write d bytes) answers stores = writes d bytes answer before after answers stores
  second_term (read r) answers stores = reads r answer before after answers stores
  second_term (log backward words maps) answers stores = logs backward words maps answer before after answers stores
  second_term (read_log groups bytes) answers stores = logs_again groups bytes answer before after answers stores
  second_term (move_words toward card source) answers stores = moves_words toward card source answer before after answers stores
  second_term (move_map toward card m) answers stores = moves_map toward card m answer answers
  second_term (invert_card card) answers stores = inverts card answer answers
  second_term (copy backward characters) answers stores = copies backward characters answer before after answers stores

  third_term : (call : Call) → answer ≡ answer_to call (length before) → after ≡ output_after answer (result_of call) before
      → ThirdTerm call answer before after
  unfolding ThirdTerm answer_to result_of
  third_term (write d bytes) answers stores = tt
  third_term (read r) answers stores = read_decides r answer before after answers stores
  third_term (log backward words maps) answers stores = log_decides backward words maps answer before after answers stores
  third_term (read_log groups bytes) answers stores = tt
  third_term (move_words toward card source) answers stores = tt
  third_term (move_map toward card m) answers stores = tt
  third_term (invert_card card) answers stores = tt
  third_term (copy backward characters) answers stores = copy_decides backward characters answer before after answers stores

  pub terms_hold : (call : Call) → answer ≡ answer_to call (length before) → after ≡ output_after answer (result_of call) before
      → Terms call answer before after
  terms_hold call answers stores = record {
    first = ends call answer before after answers stores;
    second = second_term call answers stores;
    third = third_term call answers stores;
  }

  -- as a contract has them: the answer, the output, and the terms
  pub with_terms : (call : Call) → answer ≡ answer_to call (length before) → after ≡ output_after answer (result_of call) before
      → (answer ≡ answer_to call (length before)) × ((after ≡ output_after answer (result_of call) before) × Terms call answer before after)
  with_terms call answers stores = (answers, (stores, terms_hold call answers stores))

-- the same of a refusal, which leaves the output
pub refused_with_terms : (answer : Answer) (before : List ℕ) (call : Call) (number place : ℕ) → answer ≡ refused number place
    → answer_to call (length before) ≡ refused number place
    → (answer ≡ answer_to call (length before)) × ((before ≡ output_after answer (result_of call) before) × Terms call answer before before)
unfolding output_after
refused_with_terms answer before call number place told is =
    with_terms answer before before call (told ∙ sym is) (sym (ap (λ (a : Answer). output_after a (result_of call) before) told))

-- a call that stores nothing
pub nothing_stored : (answer : Answer) → [] ≡ output_after answer [] []
unfolding output_after
nothing_stored (Answer.delivered figures) = refl
nothing_stored (Answer.refused number place) = refl
