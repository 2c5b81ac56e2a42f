-- The judgement of a group depends on the values of its tracks only.
-- Assumes nothing.
use mathlib.Core.Path.{◌≡◌, refl, ap, ap₂, ◌∙◌}
use mathlib.Core.List.{List}
use Prim.Native.Nat.{ℕ, suc, ◌<◌}
use native.Mathlib.Omega.{arith}
use Rattle.indexed.proofs.Tabulate.{tabulate_same}
use Rattle.register.specs.Shift.{shifts}
use Rattle.register.specs.Xor.{◌⊕◌}
use Rattle.register.proofs.Sum.{sum_ext}
use Rattle.rectangular.specs.Syndrome.{parity_syndrome, check_syndrome, Errors, errors_in, too_many, unaccounted, errors_of}
use Rattle.rectangular.specs.Correction.{error_at, corrected, without, judged}

module _ (w f n : ℕ) (u v : ℕ → ℕ) (same : (k : ℕ) → k < suc w → u k ≡ v k) where
  same_parity : parity_syndrome w u ≡ parity_syndrome w v
  unfolding parity_syndrome
  same_parity = sum_ext (suc w) u v same

  same_check : check_syndrome w f u ≡ check_syndrome w f v
  unfolding check_syndrome
  same_check = sum_ext w _ _ (λ k h. ap (shifts w f k) (same k (omega arith)))

  same_without : (e : Errors) → without w u e ≡ without w v e
  unfolding without
  same_without (errors_in i e j d) =
      ap corrected (tabulate_same (suc w) _ _ (λ k h. ap (λ (x : ℕ). x ⊕ error_at i e k ⊕ error_at j d k) (same k h)))
  same_without too_many = refl
  same_without unaccounted = refl

  pub judged_same : (tracks : List ℕ) → judged w f n u tracks ≡ judged w f n v tracks
  unfolding judged
  judged_same tracks =
      ap₂ (λ (s1 s2 : ℕ). without w u (errors_of w f n s1 s2 tracks)) same_parity same_check
      ∙ same_without (errors_of w f n (parity_syndrome w v) (check_syndrome w f v) tracks)
