-- What writing the log of a reading answers (document 02, request 2.1): "The log's length is told; a refused reading keeps its refusal and
-- has no log."
-- Assumes nothing.
use Rattle.std.specs.Prelude.{ℕ, Bool, List, [], ◌∷◌, leb, length}
use Rattle.answer.specs.Answer.{Answer, retold}
use Rattle.record6250.specs.Read.{changed_maps, answer_if}
use Rattle.sense_log.specs.Log.{log_space, log_of}

-- the answer for a log of so many bytes, if its reading is answered so
abbrev pub logged : ℕ → Answer → Answer
logged size answer = retold (λ figures. size ∷ []) answer

module _ (backward : Bool) (words maps : List ℕ) where
  -- the log of a reading: of the maps of its changed tracks, in forward order
  unfoldable pub reading_log : List ℕ
  reading_log = log_of (changed_maps backward words maps)

  -- the answer with so much space for the log: the reader's, by the log's own space
  unfoldable pub log_answer : ℕ → Answer
  log_answer space = logged (length reading_log) (answer_if backward words maps (leb (log_space (length maps)) space))
