-- The notice's third term holds, for every reading that passes the first three rows: what is delivered is the one record that fits.
-- Assumes nothing.
use mathlib.Core.Path.{◌≡◌, refl, sym, ap, ◌∙◌}
use mathlib.Core.List.{List, ◌++◌}
use Prim.Native.Nat.{ℕ}
use native.Mathlib.Nat.{le_of_eq}
use lib.ListN.{length, drop}
use Rattle.answer.specs.Answer.{Answer, delivered, refused, output_after}
use Rattle.record6250.proofs.Answer.{answer_passed, delivered_passed}
use Rattle.record6250.proofs.Fitting.{fits_delivered, delivered_fits, only_one}
use Rattle.record6250.specs.Read as sixRead
use Rattle.record800.proofs.Answer as eightAnswer
use Rattle.record800.proofs.Fitting as eightFitting
use Rattle.terms.specs.Reading.{Reading, at6250, at800, Enough, Passes, Fits, OneFits, told, read_answer, read_data}
use Rattle.terms.specs.Terms.{Refused, Decides, DecidesRead}

-- the one record that fits is delivered
pub one_delivered : (r : Reading) (space : ℕ) → Passes r space → (bytes : List ℕ) → OneFits r bytes
    → (read_answer r space ≡ delivered (told r bytes)) × (read_data r ≡ bytes)
unfolding Passes Enough Fits told read_answer read_data
one_delivered (at6250 backward words maps) space p bytes one =
    let d = fits_delivered backward words maps p.0 bytes one.fits in
    (answer_passed backward words maps p.0 space p.1 ∙ d.0, d.1)
one_delivered (at800 backward characters) space p bytes one =
    let d = eightFitting.fits_delivered backward characters p.0 bytes one.fits one.only in
    (eightAnswer.all_passed backward characters space p.0.lengths p.1 (le_of_eq (sym p.0.no_stray)) ∙ d.0, d.1)

-- what is delivered has passed, and is the one record that fits
pub delivered_passes : (r : Reading) (space : ℕ) (figures : List ℕ) → read_answer r space ≡ delivered figures → Passes r space
unfolding Passes Enough read_answer
delivered_passes (at6250 backward words maps) space figures e = delivered_passed backward words maps space figures e
delivered_passes (at800 backward characters) space figures e = eightAnswer.delivered_passed backward characters space figures e

pub delivered_one : (r : Reading) (space : ℕ) (figures : List ℕ) → read_answer r space ≡ delivered figures → (bytes : List ℕ) × OneFits r bytes
unfolding Enough Fits read_answer
delivered_one (at6250 backward words maps) space figures e =
    let p = delivered_passed backward words maps space figures e in
    let judged = answer_passed backward words maps p.0 space p.1 in
    let f = delivered_fits backward words maps p.0 figures (sym judged ∙ e) in (
      sixRead.read_data backward words maps,
      record { fits = f; only = λ others g. only_one backward words maps p.0 others (sixRead.read_data backward words maps) g f },
    )
delivered_one (at800 backward characters) space figures e =
    let p = eightAnswer.delivered_passed backward characters space figures e in
    let judged = eightAnswer.all_passed backward characters space p.0.lengths p.1 (le_of_eq (sym p.0.no_stray)) in
    let f = eightFitting.delivered_fits backward characters p.0 figures (sym judged ∙ e) in
    (f.0, record { fits = f.1; only = f.2 })

-- an answer that is no delivery is a refusal, which leaves the output
refused_unless : (answer : Answer) (result before after : List ℕ) → after ≡ output_after answer result before
    → ((figures : List ℕ) → answer ≡ delivered figures → ⊥) → Refused answer before after
unfolding Refused output_after
refused_unless (delivered figures) result before after e never = absurd (never figures refl)
refused_unless (refused number place) result before after e never = (number, place, refl, e)

pub output_of : (answer : Answer) (figures result before after : List ℕ) → answer ≡ delivered figures → after ≡ output_after answer result before
    → after ≡ result ++ drop (length result) before
unfolding output_after
output_of answer figures result before after d e = e ∙ ap (λ (a : Answer). output_after a result before) d

-- the third term, of any answer and output: if the one record that fits makes the answer, and the result, and a delivery has one
module _ (r : Reading) (tells stores : List ℕ → List ℕ) (answer : Answer) (result before after : List ℕ)
    (output : after ≡ output_after answer result before)
    (delivers : (bytes : List ℕ) → OneFits r bytes → (answer ≡ delivered (tells bytes)) × (result ≡ stores bytes))
    (has_one : (figures : List ℕ) → answer ≡ delivered figures → (bytes : List ℕ) × OneFits r bytes) where
  pub decides : Decides r tells stores answer before after
  decides = record {
    delivered_if_one = λ bytes one.
        let d = delivers bytes one in (
          d.0,
          output_of answer (tells bytes) result before after d.0 output ∙ ap (λ (l : List ℕ). l ++ drop (length l) before) d.1,
        );
    one_if_delivered = has_one;
    refused_if_none = λ none.
        refused_unless answer result before after output (λ figures e. let one = has_one figures e in none one.0 one.1.fits);
    refused_if_several = λ one another f g apart.
        refused_unless answer result before after output
        (λ figures e. let only = (has_one figures e).1.only in apart (only one f ∙ sym (only another g)));
  }

-- of any answer and output that are the reader's
module _ (r : Reading) (answer : Answer) (before after : List ℕ) (answers : answer ≡ read_answer r (length before))
    (stores : after ≡ output_after answer (read_data r) before) where
  pub read_decides : Passes r (length before) → DecidesRead r answer before after
  unfolding DecidesRead
  read_decides passes =
      decides r (told r) (λ bytes. bytes) answer (read_data r) before after stores
      (λ bytes one. let d = one_delivered r (length before) passes bytes one in (answers ∙ d.0, d.1))
      (λ figures e. delivered_one r (length before) figures (sym answers ∙ e))
