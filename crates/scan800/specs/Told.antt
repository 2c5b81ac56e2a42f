-- What the code tells of a reading, and what it has gathered of it.
-- Assumes nothing.
use Rattle.std.specs.Prelude.{ℕ, ◌<◌, List, Option, Result, ◌≡◌, unwrap_or, IfSome}
use Rattle.register.specs.Shift.{shifts}
use Rattle.answer.specs.Answer.{Answer, told}
use Rattle.answer.specs.declared.Refusal.{Refusal}
use Rattle.cyclic.specs.Constants.{feedback, ahead, tracks}
use Rattle.record800.specs.Read.{figures_of, check_read, error_pattern, longitudinal_read, wrong_count}
use Rattle.scan800.specs.declared.Figures.{Figures}
use Rattle.scan800.specs.declared.gather.Gathered.{Gathered}

-- the corrected track, or 9 if there is none
abbrev pub track_told : Option ℕ → ℕ
track_told track = unwrap_or track tracks

-- the track that a delivery tells is one of the nine: where nothing differs, none is told, and not 9
abbrev pub TrackIs : Figures → Type 0
TrackIs figures = IfSome figures.track (λ track. track < tracks)

-- the figures of a delivery: n, the corrected track, how many characters differ, and how many in each track
abbrev pub figures_told : Figures → List ℕ
figures_told figures = figures_of figures.length (track_told figures.track) figures.changes

abbrev pub told_read : Result Figures Refusal → Answer
told_read = told figures_told

-- the registers and sums of a reading: the error-pattern register holds X^8 E
abbrev pub GatheredAre : Gathered → ℕ → List ℕ → Type 0
GatheredAre g n characters =
    (g.check ≡ check_read n characters)
    × (g.error ≡ shifts 9 feedback ahead (error_pattern n characters))
    × (g.longitudinal ≡ longitudinal_read n characters)
    × (g.wrong ≡ wrong_count n characters)
