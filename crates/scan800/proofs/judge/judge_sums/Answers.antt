-- `scan800::judge::judge_sums` meets its contract, by the sums that are gathered.
-- Assumes nothing.
use mathlib.Core.Path.{sym, ap, ap₂, ◌∙◌}
use mathlib.Core.Bool.{true, false, ◌&&◌}
use Prim.Native.Nat.{ℕ}
use native.Mathlib.Omega.{arith}
use lib.Dec.{eqb}
use Rattle.register.proofs.Shift.{shifts_lt}
use Rattle.answer.specs.Answer.{delivered, told_refusal}
use Rattle.cyclic.specs.Constants.{feedback}
use Rattle.record800.specs.Read.{figures_of}
use Rattle.scan800.proofs.Deciding.{pattern_lt, pattern_back, told_found, clean_answer, found_answer, found_hold}
use Rattle.scan800.specs.Told.{told_read}
use Rattle.std.proofs.lemmas.Result.{err_from_is_err_and}
use Rattle.scan800.proofs.judge.judge_sums.Goals as goal

pub returns-then-agree-clause-answer : goal.returns-then-agree-clause-answer
returns-then-agree-clause-answer c =
    let sums = c.gather-gathered.ensures in
    ap (λ (n : ℕ). delivered (figures_of n 9 0)) c.data_length-length.ensures
    ∙ sym (clean_answer _ _ (sym sums.3 ∙ c.if-gathered-eq0.true) true
    (sym c.if-agree.true ∙ c.agree.ensures ∙ ap₂ (λ (x y : ℕ). eqb x 471 && eqb y 0) sums.0 sums.2))

pub returns-then-gathered-eq0-clause-answer : goal.returns-then-gathered-eq0-clause-answer
returns-then-gathered-eq0-clause-answer c =
    let sums = c.gather-gathered.ensures in
    ap told_refusal c.into.ensures
    ∙ sym (clean_answer _ _ (sym sums.3 ∙ c.if-gathered-eq0.true) false
    (sym c.if-agree.false ∙ c.agree.ensures ∙ ap₂ (λ (x y : ℕ). eqb x 471 && eqb y 0) sums.0 sums.2))

pub unshifted-pattern-requires : goal.unshifted-pattern-requires
unshifted-pattern-requires c = rw c.gather-gathered.ensures.1 (shifts_lt 9 feedback 8 _ (omega arith) (pattern_lt _ _))

pub located-requires : goal.located-requires
located-requires c =
    let sums = c.gather-gathered.ensures in
    (rw (c.unshifted-pattern.ensures ∙ pattern_back _ _ _ sums.1) (pattern_lt _ _), omega arith)

pub returns-in_err-track-clause-answer : goal.returns-in_err-track-clause-answer
returns-in_err-track-clause-answer c =
    let sums = c.gather-gathered in
    let found = found_answer _ _ (λ e. c.if-gathered-eq0.false (sums.ensures.3 ∙ e)) _ (found_hold _ _ sums.result _ _ sums.ensures c.unshifted-pattern.ensures c.located.ensures.found) in
    let refusal = err_from_is_err_and _ c.from_residual.ensures.1 in
    ap told_read refusal.1 ∙ ap told_refusal refusal.2 ∙ sym (found ∙ ap (told_found _ _) c.in_err-track.was)

pub returns-clause-answer : goal.returns-clause-answer
returns-clause-answer c =
    let sums = c.gather-gathered in
    let found = found_answer _ _ (λ e. c.if-gathered-eq0.false (sums.ensures.3 ∙ e)) _ (found_hold _ _ sums.result _ _ sums.ensures c.unshifted-pattern.ensures c.located.ensures.found) in
    ap₂ (λ (n w : ℕ). delivered (figures_of n c.in_ok-track.track w)) c.data_length-length.ensures sums.ensures.3
    ∙ sym (found ∙ ap (told_found _ _) c.in_ok-track.was)
