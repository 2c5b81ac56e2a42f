-- `log_writer::writer::log_within` meets its contract: what is stored is the log of the maps in front of those gathered.
-- Assumes nothing.
use mathlib.Core.Path.{refl}
use native.Mathlib.Omega.{arith}
use Rattle.std.proofs.lemmas.Result.{err_from_is_err_and}
use Rattle.log_writer.proofs.Logged.{space_held, length_logged, log_in_front}
use Rattle.answer.specs.Answer.{output_after}
use Rattle.log_writer.proofs.writer.log_within.Goals as goal

pub returns-in_err-read-clause-log : goal.returns-in_err-read-clause-log
unfolding output_after
returns-in_err-read-clause-log g c =
    let p = err_from_is_err_and c.from_residual.result c.from_residual.ensures.1 in rw p.1 refl

pub store_log-requires : goal.store_log-requires
store_log-requires g c =
    space_held c.judge_record-read.new.changed c.args.log.now _ (omega (arith, c.requires.groups, c.requires.sizes)) c.requires.space

pub returns : goal.returns
returns g c =
    let r = c.args.reading.now in
    let read = c.in_ok-read.ensures in record {
      answer = length_logged r.backward r.words.now r.maps.now _ c.judge_record-read.new.changed _ read.answer read.maps c.store_log.result c.store_log.ensures.length;
      log = log_in_front r.backward r.words.now r.maps.now _ c.judge_record-read.new.changed _ read.answer read.maps c.store_log.result c.args.log.now c.store_log.new.log
          c.requires.space c.store_log.ensures.log;
    }
