-- `marks::marks::Groups::mark` meets its contract.
-- Assumes nothing.
use Rattle.marks.proofs.Marked.{group_mark_is}
use Rattle.marks.proofs.marks.Groups.mark.Goals as goal

pub returns : goal.returns
returns c =
    let shown = c.args.self.now in
    group_mark_is shown.view shown.words.now shown.maps.now shown.right.now c.args.g c.args.track _ _ _ _ _ _ _
    c.word_read-word.ensures c.word_read-kept.ensures c.turned_place.ensures.place c.pointed_by-pointer.ensures c.corrects.ensures
    c.mark.ensures c.marked.ensures
