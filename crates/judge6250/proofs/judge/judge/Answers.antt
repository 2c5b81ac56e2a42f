-- `judge6250::judge::judge` meets its contract: its sums are the syndromes, and the errors that they tell of are taken off.
-- Assumes nothing.
use Rattle.std.specs.Prelude.{List, Result, Err}
use Rattle.std.proofs.lemmas.Result.{err_from_is_err_and}
use mathlib.Core.Path.{◌≡◌, refl, sym, ap, ap₂, ◌∙◌}
use mathlib.Core.Bool.{Bool, true, false, ◌&&◌, false≢true}
use Prim.Native.Nat.{ℕ}
use native.Mathlib.Omega.{arith}
use borrow.Author.Tests.{eqb-true}
use lib.ListN.{get_or}
use Rattle.indexed.proofs.Tabulate.{tabulate_get_or}
use Rattle.rectangular.specs.Constants.{feedback, exponent}
use Rattle.rectangular.specs.Correction.{pointed_tracks, corrected, without, judged}
use Rattle.rectangular.specs.Relied.{relied_on}
use Rattle.rectangular.specs.Syndrome.{parity_syndrome, check_syndrome, Errors, errors_of}
use Rattle.group6250.specs.declared.group.Group.{Group}
use Rattle.group6250.specs.Packed.{values_of}
use Rattle.group6250.proofs.Packed.{length_values, parity_syndrome_lem, check_syndrome_lem}
use Rattle.rectangular.proofs.Errors.{errors_apart}
use Rattle.rectangular.proofs.Relied.{relied_none}
use Rattle.judge6250.proofs.Corrected.{clean_judged, unchanged}
use Rattle.judge6250.specs.Told.{told_errors, told_judged, told_changed, changed_by}
use Rattle.judge6250.specs.declared.errors.Unfit.{Unfit}
use Rattle.judge6250.specs.declared.errors.Unfit.TheVariants.{ManyPointed, NoGroup}
use Rattle.judge6250.specs.declared.judge.Correction.{Correction}
use Rattle.judge6250.proofs.judge.judge.Goals as goal

-- three tests that hold together hold each
all_hold : (a b c : Bool) → (a && b && c) ≡ true → (a ≡ true) × (b ≡ true) × (c ≡ true)
all_hold true true true e = (refl, refl, refl)
all_hold true true false e = absurd (false≢true e)
all_hold true false c e = absurd (false≢true e)
all_hold false b c e = absurd (false≢true e)

pub corrected-requires : goal.corrected-requires
corrected-requires c =
    let told = c.errors_of in
    let within = errors_apart 8 feedback exponent _ _ (relied_on c.args.legal c.args.pointers) _ _ _ _ (sym told.ensures ∙ ap told_errors c.in_ok-pair.was) in
    (omega (arith, within.first), omega (arith, within.second), within.apart)

-- errors that are told by the sums, taken off, are the judgement
module _ (g : Group) (s1 s2 pointers : ℕ) (is1 : s1 ≡ parity_syndrome 8 (λ k. get_or (values_of g) k 0)) (is2 : s2 ≡ check_syndrome 8 feedback (λ k. get_or (values_of g) k 0)) where
  judgement-of : (e : Errors) → e ≡ errors_of 8 feedback exponent s1 s2 (pointed_tracks 9 pointers)
      → without 8 (λ k. get_or (values_of g) k 0) e ≡ judged 8 feedback exponent (λ k. get_or (values_of g) k 0) (pointed_tracks 9 pointers)
  unfolding judged
  judgement-of e is =
      ap (without 8 (λ k. get_or (values_of g) k 0)) is
      ∙ ap₂ (λ (a b : ℕ). without 8 (λ k. get_or (values_of g) k 0) (errors_of 8 feedback exponent a b (pointed_tracks 9 pointers))) is1 is2

pub returns-then-is_clean : goal.returns-then-is_clean
unfolding changed_by
returns-then-is_clean c =
    let g = c.args.group in
    let legal = c.args.legal in
    let clean = all_hold _ _ _ (sym c.is_clean.ensures ∙ c.if-is_clean.true) in
    let none = eqb-true c.args.pointers 0 clean.2 in
    let s1 = sym (parity_syndrome_lem g _ c.parity.ensures) ∙ eqb-true _ 0 clean.0 in
    let s2 = sym (check_syndrome_lem g _ c.check_syndrome-s2.ensures) ∙ eqb-true _ 0 clean.1 in record {
      told = sym (ap (λ (p : ℕ). judged 8 feedback exponent (λ k. get_or (values_of g) k 0) (pointed_tracks 9 p)) (ap (relied_on legal) none ∙ relied_none legal)
          ∙ clean_judged (λ k. get_or (values_of g) k 0) s1 s2
          ∙ ap corrected (tabulate_get_or 9 (values_of g) (length_values g)));
      changed = sym (unchanged (values_of g));
    }

-- a reason in place of a group
module _ (read : List ℕ) (unfit : Unfit) (told : Result Correction Unfit) (is : told ≡ Err unfit) where
  without-unfit : (v : ℕ → ℕ) → told_judged told ≡ without 8 v (told_errors (Err unfit))
  unfolding without
  without-unfit v = ap told_judged is ∙ by unfit
    where
      by : (u : Unfit) → told_judged (Err u) ≡ without 8 v (told_errors (Err u))
      by ManyPointed = refl
      by NoGroup = refl

  unfit-unchanged : told_changed told ≡ changed_by read (told_judged told)
  unfolding changed_by
  unfit-unchanged = ap told_changed is ∙ by unfit ∙ ap (λ (t : Result Correction Unfit). changed_by read (told_judged t)) (sym is)
    where
      by : (u : Unfit) → 0 ≡ changed_by read (told_judged (Err u))
      by ManyPointed = refl
      by NoGroup = refl

pub returns-in_err-pair : goal.returns-in_err-pair
returns-in_err-pair c =
    let g = c.args.group in
    let unfit = c.in_err-pair.field-0.0 in
    let gives = err_from_is_err_and c.from_residual.result c.from_residual.ensures.1 in
    let is : c.from_residual.result ≡ Err unfit = gives.1 ∙ ap Err gives.2 in record {
      told = without-unfit (values_of g) unfit c.from_residual.result is (λ k. get_or (values_of g) k 0)
          ∙ judgement-of g _ _ (relied_on c.args.legal c.args.pointers) (parity_syndrome_lem g _ c.parity.ensures)
          (check_syndrome_lem g _ c.check_syndrome-s2.ensures) _ (sym (ap told_errors c.in_err-pair.was) ∙ c.errors_of.ensures);
      changed = unfit-unchanged (values_of g) unfit c.from_residual.result is;
    }

pub returns : goal.returns
unfolding without changed_by
returns c =
    let g = c.args.group in record {
      told = ap corrected c.corrected.ensures.values
          ∙ judgement-of g _ _ (relied_on c.args.legal c.args.pointers) (parity_syndrome_lem g _ c.parity.ensures)
          (check_syndrome_lem g _ c.check_syndrome-s2.ensures) _ (sym (ap told_errors c.in_ok-pair.was) ∙ c.errors_of.ensures);
      changed = c.corrected.ensures.changed;
    }
