-- Which of the pointed tracks fitting relies on, at nine tracks (document 02, "2.3 A drive that points at the wrong track"). Heads of fewer
-- tracks ("2.12") rely on all of them.
-- Assumes nothing.
use Rattle.std.specs.Prelude.{ℕ, Bool, cond, ◌&&◌, eqb, length}
use Rattle.rectangular.specs.Constants.{tracks}
use Rattle.rectangular.specs.Correction.{pointed_tracks}

-- "Just one track is pointed, by the drive only, its word being legal": all words are legal, and one track is pointed
unfoldable pub one_pointer : Bool → ℕ → Bool
one_pointer legal pointers = legal && eqb (length (pointed_tracks tracks pointers)) 1

-- Where that is so none is relied on, since "one track anywhere may differ", which is what holds with none pointed; elsewhere all that are
-- pointed are.
unfoldable pub relied_on : Bool → ℕ → ℕ
relied_on legal pointers = cond (one_pointer legal pointers) 0 pointers
