-- `marks::forward::word_read` meets its contract.
-- Assumes nothing.
use borrow.Author.Rules.{rules}
use Rattle.marks.proofs.Marked.{word_read_is}
use Rattle.marks.proofs.forward.word_read.Goals as goal

pub returns : goal.returns
returns c =
    let place = c in
    let args = place.args in
    word_read_is args.backward args.words.now args.groups args.g args.track place.turned_place-at.result c.forward_word.result
    (search rules) place.turned_place-at.ensures.place c.forward_word.ensures
