-- `streams::sink::send` meets its contract: a write takes no more bytes than were left.
-- Assumes nothing.
use Rattle.streams.proofs.Known.{within_all, written_more}
use Rattle.streams.proofs.sink.send.Goals as goal

pub loop-count-preserved : goal.loop-count-preserved
loop-count-preserved g c =
    let l = c.loop-count in
    let more = c.in_ok-more in
    let all = within_all c.args.bytes.now l.count more.more l.invariant.0 more.ensures.within in
    (all, written_more l.count more.more c.args.bytes.now _ _ _ l.invariant.0 all l.invariant.1 more.ensures.bytes)

pub returns-then-count-bytes-clause-bytes : goal.returns-then-count-bytes-clause-bytes
returns-then-count-bytes-clause-bytes g c =
    let l = c.loop-count in
    let more = c.in_ok-more in
    let all = within_all c.args.bytes.now l.count more.more l.invariant.0 more.ensures.within in
    written_more l.count more.more c.args.bytes.now _ _ _ l.invariant.0 all l.invariant.1 more.ensures.bytes
