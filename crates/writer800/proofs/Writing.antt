-- What a writer has stored, and what it answers.
-- Assumes nothing.
use mathlib.Core.Path.{◌≡◌, sym, ap, ap₂, ◌∙◌}
use mathlib.Core.Logic.{◌⊎◌, inl, inr}
use mathlib.Core.List.{List, [], ◌∷◌, ◌++◌, map}
use Prim.Native.Nat.{ℕ, suc, ◌+◌, ◌<◌, ◌≤◌}
use native.Mathlib.Omega.{arith}
use borrow.Author.Tests.{le-leb, lt-leb}
use lib.Dec.{lit<}
use lib.ListN.{length, get_or, drop, set, length-append, length-drop, length-map}
use lib.Seq.{drop-cons, set_at, append_snoc}
use Rattle.register.specs.Held.{held}
use Rattle.register.specs.Shift.{shifts}
use Rattle.register.specs.Xor.{◌⊕◌}
use Rattle.register.proofs.Held.{held_ext, held_lt, held_shifts}
use Rattle.indexed.proofs.Map.{get_d_map}
use Rattle.answer.specs.Answer.{refused_for}
use Rattle.answer.specs.declared.Reason.TheVariants.{Length, Space}
use Rattle.cyclic.specs.Constants.{feedback, least_data, most_data, checks, times_x}
use Rattle.record800.specs.Record.{character_of, check_sum, check_character, longitudinal, with_check, written_record}
use Rattle.record800.specs.Written.{write_answer}
use Rattle.writer800.specs.Stored.{stored}
use Rattle.record800.proofs.Recorded.{character_lt, length_record, longitudinal_more}

-- ---- the answer

module _ (size space : ℕ) where
  pub length_refused : (size < least_data) ⊎ (least_data ≤ size × most_data < size) → write_answer size space ≡ refused_for Length 0
  unfolding write_answer
  length_refused (inl h) = simp (lt-leb least_data size h)
  length_refused (inr h) = simp (le-leb least_data size h.0, lt-leb size most_data h.1)

  pub space_refused : least_data ≤ size → size ≤ most_data → space < size + checks → write_answer size space ≡ refused_for Space 0
  unfolding write_answer
  space_refused some within h = simp (le-leb least_data size some, le-leb size most_data within, lt-leb (size + checks) space h)

-- ---- the output

two_stored : (front output : List ℕ) (n a b : ℕ) → length front ≡ n → n + 2 ≤ length output
    → set (set (front ++ drop n output) n a) (n + 1) b ≡ ((front ++ (a ∷ [])) ++ (b ∷ [])) ++ drop (n + 2) output
two_stored front output n a b long room =
    let next : suc (suc n) ≡ n + 2 = omega arith in
    ap (λ (r : List ℕ). set (set (front ++ r) n a) (n + 1) b) (drop-cons output n 0 (omega arith))
    ∙ ap (λ (l : List ℕ). set l (n + 1) b) (set_at front (get_or output n 0) (drop (suc n) output) a n long ∙ sym (append_snoc front a (drop (suc n) output)))
    ∙ ap (λ (r : List ℕ). set ((front ++ (a ∷ [])) ++ r) (n + 1) b) (drop-cons output (suc n) 0 (omega arith))
    ∙ set_at (front ++ (a ∷ [])) (get_or output (suc n) 0) (drop (suc (suc n)) output) b (n + 1) (length-append front (a ∷ []) ∙ ap (λ (m : ℕ). m + 1) long)
    ∙ sym (append_snoc (front ++ (a ∷ [])) b (drop (suc (suc n)) output))
    ∙ ap (λ (m : ℕ). ((front ++ (a ∷ [])) ++ (b ∷ [])) ++ drop m output) next

pub length_stored : (bytes output : List ℕ) → length bytes ≤ length output → length (stored bytes output) ≡ length output
unfolding stored
length_stored bytes output room =
    length-append (map character_of bytes) (drop (length bytes) output)
    ∙ ap₂ ◌+◌ (length-map bytes character_of) (length-drop (length bytes) output)
    ∙ omega arith

module _ (bytes : List ℕ) (below : (k : ℕ) → get_or bytes k 0 < 256) where
  abbrev characters : List ℕ
  characters = map character_of bytes

  -- the check register has nine bits
  pub check_fits : (k check : ℕ) → check ≡ check_sum k (λ i. character_of (get_or bytes i 0)) → check < 512
  check_fits k check e = rw e (held_lt 9 feedback 0 k (λ i. character_of (get_or bytes i 0)) (lit< tt) (λ i h. character_lt (get_or bytes i 0) (below i)))

  -- one shift more, and G2 added
  pub check_is : (check : ℕ) → check ≡ check_sum (length bytes) (λ k. character_of (get_or bytes k 0)) → times_x check ⊕ 471 ≡ check_character characters
  unfolding check_character times_x shifts
  check_is check e =
      ap (λ (s : ℕ). s ⊕ 471)
      (ap times_x e
      ∙ held_shifts 9 feedback 0 (length bytes) (λ k. character_of (get_or bytes k 0)) (lit< tt) (λ k h. character_lt (get_or bytes k 0) (below k)) 1
      ∙ held_ext 9 feedback 1 (length bytes) _ _ (λ k h. sym (get_d_map character_of bytes k 0 0 h))
      ∙ ap (λ (n : ℕ). held 9 feedback 1 n (λ k. get_or characters k 0)) (sym (length-map bytes character_of)))

  pub all_stored : (output : List ℕ) (check last : ℕ) → length bytes + 2 ≤ length output → check ≡ check_character characters
      → last ≡ longitudinal characters ⊕ check
      → set (set (stored bytes output) (length bytes) check) (length bytes + 1) last ≡ written_record bytes ++ drop (length (written_record bytes)) output
  unfolding stored written_record with_check
  all_stored output check last room is-check is_last =
      two_stored characters output (length bytes) check last (length-map bytes character_of) room
      ∙ ap₂ (λ (a b : ℕ). ((characters ++ (a ∷ [])) ++ (b ∷ [])) ++ drop (length bytes + 2) output) is-check
      (is_last ∙ ap (λ (x : ℕ). longitudinal characters ⊕ x) is-check ∙ sym (longitudinal_more characters (check_character characters)))
      ∙ ap (λ (n : ℕ). written_record bytes ++ drop n output) (sym (length_record bytes))
