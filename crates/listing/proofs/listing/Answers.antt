-- `listing::listing` meets its contract: the text is that of what was answered and stored.
-- Assumes nothing.
use native.Mathlib.Omega.{arith}
use Rattle.listing.proofs.Answers.{enough, delivered_text, refused_text}
use Rattle.listing.proofs.listing.Goals as goal

pub put_groups-requires : goal.put_groups-requires
put_groups-requires c =
    let most = enough c.args.bytes.now c.write.result c.write.ensures.answer _ c.in-Ok.is in
    omega (arith, most, c.write.auto.words)

pub returns-in-Ok : goal.returns-in-Ok
returns-in-Ok c =
    let text = delivered_text c.args.bytes.now c.write.result c.write.ensures.answer _ c.in-Ok.is _ _ c.write.ensures.output in
    rw (text, c.clear.ensures) at c.put_groups.ensures

pub returns-in-Err : goal.returns-in-Err
returns-in-Err c =
    let text = refused_text c.args.bytes.now c.write.result c.write.ensures.answer _ c.in-Err.is in
    rw (text, c.clear.ensures) at c.put_refusal.ensures
