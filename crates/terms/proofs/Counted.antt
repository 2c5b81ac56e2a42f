-- The counts that a reader tells (document 02, request 2.7): nine, whose total is the sum, and at 800 only the corrected track's is above zero.
-- Assumes nothing.
use mathlib.Core.Path.{◌≡◌, sym, subst, ◌∙◌}
use mathlib.Core.List.{List, ◌∷◌}
use Prim.Native.Nat.{ℕ, ◌-◌, ◌<◌}
use native.Mathlib.Nat.{le_of_eq}
use native.Mathlib.Omega.{arith}
use lib.ListN.{length, get_or}
use Rattle.indexed.specs.List.{total}
use Rattle.answer.specs.Answer.{delivered}
use Rattle.record6250.proofs.Counted as six
use Rattle.record800.proofs.Answer as eightAnswer
use Rattle.record800.proofs.Counted as eight
use Rattle.record800.specs.Read as eightRead
use Rattle.terms.specs.Reading.{bpi6250, bpi800, Reading, at6250, at800, density, track_told, changes_told, counts_told, read_answer}
use Rattle.terms.specs.Terms.{Counts}

-- two densities are not the same
apart : bpi6250 ≡ bpi800 → ⊥
apart e = let z : ◌≡◌ {A = ℕ} 0 1 = cc in omega arith

-- ---- by what a delivery tells

counts_6250 : (n changes : ℕ) (each : List ℕ) → length each ≡ 9 → total 9 (λ t. get_or each t 0) ≡ changes → Counts bpi6250 (n ∷ changes ∷ each)
unfolding counts_told changes_told
counts_6250 n changes each long adds = record { nine = long; sum = adds; one_track = λ e. absurd (apart e) }

counts_800 : (n track changes : ℕ) (each : List ℕ) → length each ≡ 9 → total 9 (λ t. get_or each t 0) ≡ changes
    → ((t : ℕ) → t < 9 → (t ≡ track → ⊥) → get_or each t 0 ≡ 0) → Counts bpi800 (n ∷ track ∷ changes ∷ each)
unfolding counts_told changes_told track_told
counts_800 n track changes each long adds others = record { nine = long; sum = adds; one_track = λ e. others }

-- ---- of a reader

pub counts_told_lem : (r : Reading) (space : ℕ) (figures : List ℕ) → read_answer r space ≡ delivered figures → Counts (density r) figures
unfolding read_answer density
counts_told_lem (at6250 backward words maps) space figures e =
    subst (Counts bpi6250) (sym (six.delivery_is backward words maps space figures e))
    (counts_6250 _ _ _ (six.nine_tracks backward words maps) (six.tracks_total backward words maps))
counts_told_lem (at800 backward characters) space figures e =
    let p = eightAnswer.delivered_passed backward characters space figures e in
    let judged = eightAnswer.all_passed backward characters space p.0.lengths p.1 (le_of_eq (sym p.0.no_stray)) in
    let is = eight.delivery_is (length characters - 2) (eightRead.picture backward characters) figures (sym judged ∙ e) in
    let track : ℕ = is.0 in
    let changes : ℕ = is.1 in
    subst (Counts bpi800) (sym is.2)
    (counts_800 _ track changes _ (eight.nine_tracks track changes) (eight.tracks_total track changes is.3) (eight.elsewhere_none track changes))
