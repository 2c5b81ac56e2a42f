-- `scan800::reading::Reading::character` meets its contract.
-- Assumes nothing.
use mathlib.Core.Path.{sym, ap, ◌∙◌}
use Prim.Native.Nat.{ℕ}
use lib.ListN.{get_or}
use Rattle.record800.proofs.Picture.{get_or_picture}
use Rattle.scan800.proofs.reading.Reading.character.Goals as goal

pub returns : goal.returns
returns c =
    let reading = c.args.self.now in
    let l = reading.characters.now in
    ap (λ (k : ℕ). get_or l k 0) c.turned_place.ensures.place
    ∙ sym (get_or_picture reading.backward l c.args.k c.requires)
