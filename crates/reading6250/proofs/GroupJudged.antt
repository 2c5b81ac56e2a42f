-- A group as the code receives and judges it: the judgement and the changed tracks are the definition's.
-- Assumes nothing.
use mathlib.Core.Path.{◌≡◌, refl, sym, ap, ap₂, subst, ◌∙◌}
use mathlib.Core.Bool.{Bool, true, false, cond}
use mathlib.Core.List.{List}
use Prim.Native.Nat.{ℕ, ◌+◌, ◌*◌, ◌/◌, ◌%◌, ◌^◌, ◌<◌}
use native.Mathlib.Decide.{dec_lt, ℕ_discrete}
use native.Mathlib.Nat.{mul_comm}
use native.Mathlib.Omega.{arith}
use borrow.Author.Tests.{ne_eqb}
use lib.Bits.{bit_or, or_lt, or_zero_r}
use lib.Dec.{eqb}
use lib.ListN.{length, get_or, get_or-eq_default}
use Rattle.indexed.specs.List.{tabulate}
use Rattle.slices.specs.Turned.{turned_place}
use Rattle.indexed.proofs.Tabulate.{get_d_tabulate}
use Rattle.register.specs.Bit.{of_bits}
use Rattle.register.proofs.Expand.{bits_ext}
use Rattle.register.proofs.Ones.{bit_of_or, bit_of_tabulate, tabulated_lt}
use Rattle.group_code.specs.Word.{illegality}
use Rattle.group_code.proofs.Words.{illegality_lt}
use Rattle.rectangular.specs.Constants.{feedback, exponent, numbers_per_group}
use Rattle.rectangular.specs.Correction.{pointed_tracks, corrected, judged, changed_map}
use Rattle.group6250.specs.Packed.{values_of}
use Rattle.group6250.specs.declared.group.Group.{Group}
use Rattle.rectangular.specs.Relied.{relied_on}
use Rattle.rectangular.proofs.Same.{judged_same}
use Rattle.record6250.specs.Fits.{Passes}
use Rattle.record6250.specs.Group.{illegal_map, pointed, relied, judged_group, right_values, right_words}
use Rattle.record6250.specs.Picture.{group_lent, group_read, map_read}
use Rattle.record6250.specs.Read.{read_numbers, read_group, read_map, judgement, changed_tracks}
use Rattle.record6250.specs.Tape.{numbers_at, stray_numbers, words_from}
use Rattle.record6250.specs.Track.{word_on, value_on, words_of}
use Rattle.record6250.proofs.FittingGroup.{same_test, group_sound}
use Rattle.record6250.proofs.Relied.{illegal_lt}
use Rattle.record6250.proofs.Reading.{words_long, words_below, none_stray_lent}
use Rattle.record6250.proofs.Tape.{get_or_numbers_at, number_below}
use Rattle.record6250.proofs.Track.{value_of_word_on, word_of_value_on, word_on_legal, get_or_words_of}
use Rattle.slices.proofs.Turned.{turned_lt, turned_twice}
use Rattle.indexed.proofs.Test.{flag_lt}

-- ---- the lent words have ten bits

module _ (backward : Bool) (words maps : List ℕ) (passes : Passes backward words maps) where
  at_place : (q r : ℕ) → q < length maps → r < 9 → get_or words (numbers_per_group * q + r) 0 < 1024
  unfolding read_numbers group_lent
  at_place q r hq hr =
      let g : ℕ = turned_place backward (length maps) q in
      let none : stray_numbers (numbers_at words (numbers_per_group * q)) ≡ false =
      ap (λ (p : ℕ). stray_numbers (numbers_at words (numbers_per_group * p))) (sym (turned_twice backward (length maps) q hq))
      ∙ none_stray_lent backward words maps passes g (turned_lt backward (length maps) q hq) in
      rw (← (get_or_numbers_at words (numbers_per_group * q) r hr)) (number_below (numbers_at words (numbers_per_group * q)) none r hr)

  pub lent_below : (i : ℕ) → get_or words i 0 < 1024
  lent_below i = by (dec_lt i (length words))
    where
      by : Dec (i < length words) → get_or words i 0 < 1024
      by (yes h) =
          let e : numbers_per_group * (i / numbers_per_group) + i % numbers_per_group ≡ i = omega arith in
          subst (λ (k : ℕ). get_or words k 0 < 1024) e
          (at_place (i / numbers_per_group) (i % numbers_per_group) (omega (arith, words_long backward words maps passes)) (omega arith))
      by (no h) = rw (get_or-eq_default words 0 {n = i} (omega arith)) (omega arith)

-- ---- the judgement

module _ (backward : Bool) (words maps : List ℕ) (g place : ℕ) (is-place : place ≡ turned_place backward (length maps) g) where
  abbrev lent : List ℕ
  lent = words_from backward (numbers_at words (place * numbers_per_group))

  pub lent_group : lent ≡ read_group backward words maps g
  unfolding read_group group_read group_lent
  lent_group = ap (λ (p : ℕ). words_from backward (numbers_at words p)) (mul_comm place numbers_per_group ∙ ap (λ (q : ℕ). numbers_per_group * q) is-place)

  pub lent_map : get_or maps place 0 ≡ read_map backward words maps g
  unfolding read_map map_read
  lent_map = ap (λ (p : ℕ). get_or maps p 0) is-place

  module _ (group : Group) (illegal : ℕ) (values : values_of group ≡ tabulate 9 (λ k. value_on k (get_or lent k 0))) (marks : illegal ≡ illegal_map lent) where
    pub value_at_lem : (k : ℕ) → k < 9 → get_or (values_of group) k 0 ≡ value_on k (get_or (read_group backward words maps g) k 0)
    value_at_lem k h =
        ap (λ (l : List ℕ). get_or l k 0) values
        ∙ get_d_tabulate 9 (λ k. value_on k (get_or lent k 0)) k 0 h
        ∙ ap (λ (l : List ℕ). value_on k (get_or l k 0)) lent_group

    -- the tracks relied on are the definition's
    relied_told : relied_on (eqb illegal 0) (bit_or (get_or maps place 0) illegal) ≡ relied (read_group backward words maps g) (read_map backward words maps g)
    unfolding relied pointed
    relied_told = ap₂ (λ (m i : ℕ). relied_on (eqb i 0) (bit_or m i)) lent_map (marks ∙ ap illegal_map lent_group)

    pub pointers_lt : get_or maps place 0 < 2 ^ 9 → bit_or (get_or maps place 0) illegal < 2 ^ 9
    pointers_lt h = or_lt 9 (get_or maps place 0) illegal h (rw marks (illegal_lt lent))

    pub judgement_told : judged 8 feedback exponent (λ k. get_or (values_of group) k 0) (pointed_tracks 9 (relied_on (eqb illegal 0) (bit_or (get_or maps place 0) illegal)))
        ≡ judgement backward words maps g
    unfolding judgement judged_group
    judgement_told =
        ap (λ (p : ℕ). judged 8 feedback exponent (λ k. get_or (values_of group) k 0) (pointed_tracks 9 p)) relied_told
        ∙ judged_same 8 feedback exponent (λ k. get_or (values_of group) k 0) (λ k. value_on k (get_or (read_group backward words maps g) k 0)) value_at_lem
        (pointed_tracks 9 (relied (read_group backward words maps g) (read_map backward words maps g)))

-- ---- the changed tracks

-- a word differs from the right one if it is illegal, or if its value differs
changed_word : (k word value right : ℕ) → word < 1024 → right < 256 → value ≡ value_on k word
    → bit_or (cond (eqb value right) 0 1) (illegality word) ≡ cond (eqb word (word_on k right)) 0 1
changed_word k word value right hw hr e = by (ℕ_discrete (illegality word) 0)
  where
    flag : ℕ
    flag = cond (eqb value right) 0 1

    by : Dec (illegality word ≡ 0) → bit_or (cond (eqb value right) 0 1) (illegality word) ≡ cond (eqb word (word_on k right)) 0 1
    by (yes legal) =
        ap (bit_or (cond (eqb value right) 0 1)) legal
        ∙ or_zero_r (cond (eqb value right) 0 1)
        ∙ ap (λ (b : Bool). cond b 0 1)
        (same_test value right word (word_on k right)
        (λ q. sym (word_of_value_on k word hw legal) ∙ ap (word_on k) (sym e ∙ q))
        (λ q. e ∙ ap (value_on k) q ∙ value_of_word_on k right hr))
    by (no illegal) =
        let one : illegality word ≡ 1 = omega (arith, illegality_lt word) in
        ap (bit_or (cond (eqb value right) 0 1)) one
        ∙ or_one (eqb value right)
        ∙ ap (λ (b : Bool). cond b 0 1) (sym (ne_eqb word (word_on k right) (λ q. illegal (ap illegality q ∙ word_on_legal k right hr))))
      where
        or_one : (b : Bool) → bit_or (cond b 0 1) 1 ≡ 1
        or_one true = refl
        or_one false = refl

changed_words : (ws values right : List ℕ) → ((k : ℕ) → k < 9 → get_or ws k 0 < 1024) → ((k : ℕ) → k < 9 → get_or right k 0 < 256)
    → ((k : ℕ) → k < 9 → get_or values k 0 ≡ value_on k (get_or ws k 0))
    → bit_or (changed_map 9 values right) (illegal_map ws) ≡ changed_map 9 ws (words_of right)
unfolding changed_map illegal_map
changed_words ws values right hw hr hv =
    bits_ext 9 _ _
    (or_lt 9 _ _ (tabulated_lt 9 differs (λ k h. flag_lt (eqb (get_or values k 0) (get_or right k 0)))) (tabulated_lt 9 marks (λ k h. illegality_lt (get_or ws k 0))))
    (tabulated_lt 9 changed (λ k h. flag_lt (eqb (get_or ws k 0) (get_or (words_of right) k 0))))
    (λ k h. bit_of_or k (of_bits (tabulate 9 differs)) (of_bits (tabulate 9 marks))
    ∙ ap₂ bit_or (bit_of_tabulate 9 differs (λ k h. flag_lt (eqb (get_or values k 0) (get_or right k 0))) k h)
    (bit_of_tabulate 9 marks (λ k h. illegality_lt (get_or ws k 0)) k h)
    ∙ changed_word k (get_or ws k 0) (get_or values k 0) (get_or right k 0) (hw k h) (hr k h) (hv k h)
    ∙ ap (λ (w : ℕ). cond (eqb (get_or ws k 0) w) 0 1) (sym (get_or_words_of right k h))
    ∙ sym (bit_of_tabulate 9 changed (λ k h. flag_lt (eqb (get_or ws k 0) (get_or (words_of right) k 0))) k h))
  where
    differs : ℕ → ℕ
    differs k = cond (eqb (get_or values k 0) (get_or right k 0)) 0 1

    marks : ℕ → ℕ
    marks k = illegality (get_or ws k 0)

    changed : ℕ → ℕ
    changed k = cond (eqb (get_or ws k 0) (get_or (words_of right) k 0)) 0 1

-- of a group that a group of the code fits
pub changed_told : (backward : Bool) (words maps : List ℕ) → Passes backward words maps → (g : ℕ) → g < length maps → (values right : List ℕ)
    → ((k : ℕ) → k < 9 → get_or values k 0 ≡ value_on k (get_or (read_group backward words maps g) k 0))
    → judgement backward words maps g ≡ corrected right
    → bit_or (changed_map 9 values right) (illegal_map (read_group backward words maps g)) ≡ changed_tracks backward words maps g
unfolding changed_tracks right_words right_values judgement
changed_told backward words maps passes g h values right same fits =
    let sound = group_sound (read_group backward words maps g) (read_map backward words maps g) (words_below backward words maps passes g h) right fits in
    changed_words (read_group backward words maps g) values right (words_below backward words maps passes g h)
    (λ k b. sound.1.bounds k (omega arith)) same
    ∙ ap (λ (j : _). changed_map 9 (read_group backward words maps g) (right_words j)) (sym fits)
