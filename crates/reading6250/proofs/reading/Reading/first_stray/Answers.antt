-- `reading6250::reading::Reading::first_stray` asks what its lengths say.
-- Assumes nothing.
use Rattle.record6250.proofs.Reading.{lengths_told}
use Rattle.reading6250.proofs.reading.Reading.first_stray.Goals as goal

pub first_stray-requires : goal.first_stray-requires
first_stray-requires c = (lengths_told _ _ c.args.self.now.suits).2
