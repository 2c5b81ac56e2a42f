-- `listing::listed` meets its contract: what was read is within the bytes, and their listing or a message is put.
-- Assumes nothing.
use native.Mathlib.Omega.{arith}
use lib.ListN.{take}
use Rattle.listing.proofs.Answers.{listed_message}
use Rattle.listing.proofs.Whole.{whole_listing, listed_whole, told_whole}
use Rattle.listing.proofs.listed.Goals as goal

pub returns-in-Ok-clause-input : goal.returns-in-Ok-clause-input
returns-in-Ok-clause-input g c =
    let bytes = take c.in-Ok.count c.read.new.space in
    let read = c.in-Ok.ensures in
    let whole = whole_listing bytes _ _ read.bytes.0 (λ few. read.bytes.1 (omega (arith, read.filled.1))) in
    listed_whole _ _ bytes c.listing.result c.listing.ensures whole

pub returns-in-Err-clause-listed : goal.returns-in-Err-clause-listed
returns-in-Err-clause-listed g c = listed_message _ _ c.unread.result c.unread.ensures

pub returns-in-Err-clause-input : goal.returns-in-Err-clause-input
returns-in-Err-clause-input g c = told_whole _ _ _ c.unread.result c.unread.ensures
