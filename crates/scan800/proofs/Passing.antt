-- A reading that passed is one that passes.
-- Assumes nothing.
use Rattle.record800.specs.Fits.{Passes}
use Rattle.scan800.specs.declared.passed.Passed.{Passed}

pub passes : (p : Passed) → Passes p.reading.backward p.reading.characters.now
passes p = record { lengths = p.lengths; no_stray = p.no_stray }
