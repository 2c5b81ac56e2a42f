-- What document 02, "2.2 Odd parity in track 8", says of a written group: which byte each track records, and the parity of the group's
-- characters.
-- Assumes nothing.
use mathlib.Core.Path.{◌≡◌, refl, sym, ap, ap₂, ◌∙◌}
use mathlib.Core.List.{List, [], ◌∷◌, ◌++◌, map}
use Prim.Native.Nat.{ℕ, ◌<◌}
use native.Mathlib.Omega.{arith}
use lib.ListN.{get_or}
use Rattle.indexed.specs.List.{tabulate, tabulate_from}
use Rattle.indexed.proofs.Test.{equal}
use Rattle.register.specs.Bit.{bit}
use Rattle.register.specs.Sum.{xor_sum}
use Rattle.register.specs.Xor.{◌⊕◌}
use Rattle.register.proofs.Expand.{bit_sum}
use Rattle.register.proofs.Sum.{sum_ext, sum_last}
use Rattle.register.proofs.Xor.{xor_cancel}
use Rattle.group_code.specs.Code.{word_of}
use Rattle.group_code.specs.Word.{value_of}
use Rattle.group_code.proofs.Words.{value_of_word}
use Rattle.rectangular.specs.Constants.{feedback}
use Rattle.rectangular.specs.Group.{character, column, track, group}
use Rattle.rectangular.proofs.Equations.{Below, track_low, track_parity}
use Rattle.record6250.specs.Record.{group_words}
use Rattle.record6250.specs.Track.{recorded, word_on, words_of}
use Rattle.record6250.proofs.FittingGroup.{group_word, tracks_group}
use Rattle.record6250.proofs.Track.{recorded_low, recorded_lt}

module _ (info : List ℕ) where
  -- Z0 to Z7 of document 000
  abbrev pub z : ℕ → ℕ
  z = column 8 (character 8 feedback info)

  -- "The right 6250 record is now document 000's with that track complemented"
  pub words_recorded : group_words info ≡ map word_of (tabulate 8 z ++ ((xor_sum 8 z ⊕ 255) ∷ []))
  unfolding group_words words_of word_on recorded group track tabulate tabulate_from
  words_recorded = refl

  recorded_sum : xor_sum 9 (λ k. recorded k (track 8 feedback info k)) ≡ 255
  unfolding recorded
  recorded_sum =
      sum_last 8 (λ k. recorded k (track 8 feedback info k))
      ∙ ap₂ ◌⊕◌ (sum_ext 8 _ z (λ k h. recorded_low k (track 8 feedback info k) h ∙ track_low 8 feedback info k h))
      (ap (λ (p : ℕ). p ⊕ 255) (track_parity 8 feedback info))
      ∙ xor_cancel (xor_sum 8 z) 255

  -- "Interchange reels carry nine-bit characters of odd parity": character i has bit i of the byte on each track
  pub odd_characters : Below 8 info → (i : ℕ) → i < 8 → xor_sum 9 (λ k. bit i (value_of (get_or (group_words info) k 0))) ≡ 1
  unfolding word_on bit
  odd_characters small i h =
      sum_ext 9 _ (λ k. bit i (recorded k (track 8 feedback info k)))
      (λ k b. ap (bit i)
      (ap value_of (group_word info k b)
      ∙ value_of_word (recorded k (track 8 feedback info k)) (recorded_lt k _ ((tracks_group info small).bounds k (omega arith)))))
      ∙ sym (bit_sum i 9 (λ k. recorded k (track 8 feedback info k)))
      ∙ ap (bit i) recorded_sum
      ∙ equal 8 (λ i. bit i 255) (λ i. 1) tt i h
