-- What the code tells of errors and of a judgement.
-- Assumes nothing.
use Rattle.std.specs.Prelude.{ℕ, ◌^◌, cond, List, Option, Some, None, Result, Ok, Err, eqb}
use Rattle.answer.specs.declared.Reason as reason
use Rattle.answer.specs.declared.Reason.{Reason}
use Rattle.rectangular.specs.Constants.{tracks}
use Rattle.rectangular.specs.Correction.{Judgement, corrected, many_pointed, no_group, changed_map}
use Rattle.rectangular.specs.Syndrome as syndrome
use Rattle.group6250.specs.Packed.{values_of}
use Rattle.judge6250.specs.declared.errors.ErrorPair.{ErrorPair}
use Rattle.judge6250.specs.declared.errors.Unfit.{Unfit}
use Rattle.judge6250.specs.declared.errors.Unfit.TheVariants.{ManyPointed, NoGroup}
use Rattle.judge6250.specs.declared.judge.Correction.{Correction}

-- why a reading with such a group is refused
abbrev pub told_reason : Unfit → Reason
told_reason ManyPointed = reason.TheVariants.ManyPointed
told_reason NoGroup = reason.TheVariants.NoGroup

abbrev pub told_errors : Result ErrorPair Unfit → syndrome.Errors
told_errors (Ok pair) = syndrome.errors_in pair.first pair.error pair.second pair.other
told_errors (Err ManyPointed) = syndrome.too_many
told_errors (Err NoGroup) = syndrome.unaccounted

-- one error, in the track that was located, and none in P beside it
abbrev pub told_located : Option ℕ → ℕ → syndrome.Errors
told_located (Some track) s1 = syndrome.errors_in track s1 8 0
told_located None s1 = syndrome.unaccounted

abbrev pub told_judged : Result Correction Unfit → Judgement
told_judged (Ok c) = corrected (values_of c.group)
told_judged (Err ManyPointed) = many_pointed
told_judged (Err NoGroup) = no_group

abbrev pub told_changed : Result Correction Unfit → ℕ
told_changed (Ok c) = c.changed
told_changed (Err unfit) = 0

-- the tracks in which a group that was read differs from the one that fits
unfoldable pub changed_by : List ℕ → Judgement → ℕ
changed_by read (corrected right) = changed_map tracks read right
changed_by read many_pointed = 0
changed_by read no_group = 0

-- the bit of a track that an error changes
unfoldable pub mark_at : ℕ → ℕ → ℕ
mark_at track error = cond (eqb error 0) 0 (2 ^ track)
