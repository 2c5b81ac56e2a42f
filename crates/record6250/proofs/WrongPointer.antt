-- Document 02's request 2.3, in its own words: where just one track is pointed, by the drive only, its word being legal, one track anywhere may
-- differ, and the group is judged as if nothing were pointed; every other group is judged as before. What was corrected before is
-- corrected alike, so refusal 5 is given for fewer groups and for no other, and refusal 4 for the same. A record is answered as it is with such
-- pointers left out.
-- Assumes nothing.
use mathlib.Core.Path.{◌≡◌, refl, sym, ap, ap₂, subst, ◌∙◌}
use mathlib.Core.Bool.{Bool, true, false}
use mathlib.Core.List.{List}
use mathlib.Core.Logic.{◌⊎◌, inl, inr}
use Prim.Native.Nat.{ℕ, ◌<◌, ◌≤◌}
use native.Mathlib.Omega.{arith}
use borrow.Author.Tests.{eq-eqb}
use lib.Bits.{bit_or, or_zero_r}
use lib.ListN.{length, get_or}
use Rattle.indexed.specs.Differ.{differences}
use Rattle.register.specs.Bit.{bit}
use Rattle.register.proofs.Bit.{bit_lt}
use Rattle.register.proofs.Expand.{bit_of_zero}
use Rattle.register.proofs.Ones.{bit_of_or}
use Rattle.register.proofs.Xor.{digit}
use Rattle.group_code.specs.Word.{illegality}
use Rattle.group_code.proofs.Words.{illegality_lt}
use Rattle.rectangular.specs.Constants.{feedback, exponent}
use Rattle.rectangular.specs.Correction.{pointed_tracks, Allowed, Judgement, corrected, many_pointed, no_group, judged}
use Rattle.rectangular.specs.Relied.{one_pointer}
use Rattle.rectangular.proofs.Correction.{nine_many, many_nine, nine_anywhere, allowed_anywhere}
use Rattle.rectangular.proofs.Pointed.{pointed_lt, pointed_one, pointed_found, none_pointed}
use Rattle.rectangular.proofs.Relied.{is_one}
use Rattle.record6250.specs.Group.{illegal_map, pointed, relied, judged_group}
use Rattle.record6250.specs.Picture.{group_read}
use Rattle.record6250.specs.Read.{read_group, read_map, judgement, read_data, changed_maps, judged_answer}
use Rattle.record6250.specs.Track.{value_on}
use Rattle.record6250.proofs.Alike.{same_answer, same_data, same_maps}
use Rattle.record6250.proofs.Relied.{illegal_bit, none_illegal, none_relied, is_one_pointer, one_legal, one_pointed, one_relied, others_relied, relied_many, pointed_many}
use Rattle.record6250.proofs.Track.{value_on_lt}

module _ (words : List ℕ) (pointers : ℕ) where
  -- the tracks that are pointed, by the drive or by an illegal word
  abbrev pub pointed_here : List ℕ
  pointed_here = pointed_tracks 9 (pointed words pointers)

  -- "just one track is pointed, by the drive only, its word being legal"
  abbrev pub JustOne : Type 0
  JustOne = (length pointed_here ≡ 1) × ((k : ℕ) × (k < 9) × (bit k pointers ≡ 1) × (illegality (get_or words k 0) ≡ 0))

  -- ---- these words and the definition's test say the same

  pointed_bits : (k : ℕ) → bit k (pointed words pointers) ≡ bit_or (bit k pointers) (bit k (illegal_map words))
  unfolding pointed
  pointed_bits k = bit_of_or k pointers (illegal_map words)

  -- a track that the drive points, or one with an illegal word, is pointed
  by_drive : (k : ℕ) → bit k pointers ≡ 1 → bit k (pointed words pointers) ≡ 1
  by_drive k e = pointed_bits k ∙ ap (λ (b : ℕ). bit_or b (bit k (illegal_map words))) e ∙ or_one (digit (bit k (illegal_map words)) (bit_lt k _))
    where
      or_one : {b : ℕ} → (b ≡ 0) ⊎ (b ≡ 1) → bit_or 1 b ≡ 1
      or_one (inl z) = ap (bit_or 1) z
      or_one (inr z) = ap (bit_or 1) z

  by_word : (k : ℕ) → k < 9 → illegality (get_or words k 0) ≡ 1 → bit k (pointed words pointers) ≡ 1
  by_word k h e = pointed_bits k ∙ ap (bit_or (bit k pointers)) (illegal_bit words k h ∙ e) ∙ or_one (digit (bit k pointers) (bit_lt k _))
    where
      or_one : {b : ℕ} → (b ≡ 0) ⊎ (b ≡ 1) → bit_or b 1 ≡ 1
      or_one (inl z) = ap (λ (b : ℕ). bit_or b 1) z
      or_one (inr z) = ap (λ (b : ℕ). bit_or b 1) z

  -- of two pointed tracks, if one only is pointed, both are it
  the_same : length pointed_here ≡ 1 → (j k : ℕ) → j < 9 → k < 9 → bit j (pointed words pointers) ≡ 1 → bit k (pointed words pointers) ≡ 1 → j ≡ k
  the_same one j k hj hk ej ek =
      let a = pointed_found 9 (pointed words pointers) pointed_here refl j hj ej in
      let b = pointed_found 9 (pointed words pointers) pointed_here refl k hk ek in
      let first : a.0 ≡ 0 = omega (arith, a.1) in
      let other : b.0 ≡ 0 = omega (arith, b.1) in
      sym a.2 ∙ ap (λ (t : ℕ). get_or pointed_here t 0) (first ∙ sym other) ∙ b.2

  all_legal : JustOne → illegal_map words ≡ 0
  all_legal (one, (k, hk, by, legal)) = none_illegal words (λ j hj. at j hj (digit (illegality (get_or words j 0)) (illegality_lt (get_or words j 0))))
    where
      at : (j : ℕ) → j < 9 → (illegality (get_or words j 0) ≡ 0) ⊎ (illegality (get_or words j 0) ≡ 1) → illegality (get_or words j 0) ≡ 0
      at j hj (inl z) = z
      at j hj (inr e) =
          absurd (omega (arith, legal, e, ap (λ (i : ℕ). illegality (get_or words i 0)) (the_same one j k hj hk (by_word j hj e) (by_drive k by))))

  pub just_one : JustOne → is_one_pointer words pointers ≡ true
  just_one j =
      ap (λ (b : Bool). one_pointer b (pointed words pointers)) (eq-eqb (illegal_map words) 0 (all_legal j)) ∙ is_one (pointed words pointers) j.0

  pub one_just : is_one_pointer words pointers ≡ true → JustOne
  unfolding pointed
  one_just e =
      let count = one_pointed words pointers e in
      let k : ℕ = get_or pointed_here 0 0 in
      let within : k < 9 = pointed_lt 9 (pointed words pointers) pointed_here refl 0 (omega (arith, count)) in
      let alone : pointed words pointers ≡ pointers = ap (bit_or pointers) (one_legal words pointers e) ∙ or_zero_r pointers in (
        count,
        (
          k,
          within,
          ap (bit k) (sym alone) ∙ pointed_one 9 (pointed words pointers) pointed_here refl 0 (omega (arith, count)),
          sym (illegal_bit words k within) ∙ ap (bit k) (one_legal words pointers e) ∙ bit_of_zero k,
        ),
      )

  -- ---- what is allowed

  -- "one track anywhere may differ", and no more
  module _ (one : JustOne) (read right : ℕ → ℕ) where
    pub one_differs : Allowed 9 (relied words pointers) read right → differences 9 read right ≤ 1
    unfolding Allowed
    one_differs a = by (subst (λ (m : ℕ). Allowed 9 m read right) (one_relied words pointers (just_one one)) a)
      where
        by : Allowed 9 0 read right → differences 9 read right ≤ 1
        by (inl b) = b.1
        by (inr b) = absurd (omega (arith, ap length (none_pointed 9)))

    pub one_may_differ : differences 9 read right ≤ 1 → Allowed 9 (relied words pointers) read right
    unfolding Allowed
    one_may_differ h =
        subst (λ (m : ℕ). Allowed 9 m read right) (sym (one_relied words pointers (just_one one))) (inl (ap length (none_pointed 9), h))

  -- what the pointed tracks allow is allowed
  pub still_allowed : (read right : ℕ → ℕ) → Allowed 9 (pointed words pointers) read right → Allowed 9 (relied words pointers) read right
  still_allowed read right a = by (is_one_pointer words pointers) refl
    where
      by : (b : Bool) → is_one_pointer words pointers ≡ b → Allowed 9 (relied words pointers) read right
      by true e =
          subst (λ (m : ℕ). Allowed 9 m read right) (sym (one_relied words pointers e))
          (allowed_anywhere 9 (pointed words pointers) read right (one_pointed words pointers e) a)
      by false e = subst (λ (m : ℕ). Allowed 9 m read right) (sym (others_relied words pointers e)) a

  -- ---- the judgement

  -- the values that were read, and the group judged by all pointed tracks, as it was before
  abbrev values : ℕ → ℕ
  values k = value_on k (get_or words k 0)

  abbrev pub judged_before : Judgement
  judged_before = judged 8 feedback exponent values pointed_here

  by_relied : (m : ℕ) → relied words pointers ≡ m → judged_group words pointers ≡ judged 8 feedback exponent values (pointed_tracks 9 m)
  unfolding judged_group
  by_relied m e = ap (λ (m : ℕ). judged 8 feedback exponent values (pointed_tracks 9 m)) e

  -- with one legal pointed track, exactly as if nothing were pointed
  pub as_if_unpointed : JustOne → judged_group words pointers ≡ judged_group words 0
  unfolding judged_group
  as_if_unpointed one = by_relied (relied words 0) (one_relied words pointers (just_one one) ∙ sym (none_relied words (all_legal one)))

  -- else as before: "groups with an illegal word, or with two pointed tracks", and those with none or with three and more
  pub as_before : (JustOne → ⊥) → judged_group words pointers ≡ judged_before
  as_before other = by (is_one_pointer words pointers) refl
    where
      by : (b : Bool) → is_one_pointer words pointers ≡ b → judged_group words pointers ≡ judged_before
      by true e = absurd (other (one_just e))
      by false e = by_relied (pointed words pointers) (others_relied words pointers e)

  pub illegal_as_before : (k : ℕ) → k < 9 → illegality (get_or words k 0) ≡ 1 → judged_group words pointers ≡ judged_before
  illegal_as_before k h e = as_before (λ one. omega (arith, illegal_bit words k h, ap (bit k) (all_legal one), bit_of_zero k))

  pub not_one_as_before : (length pointed_here ≡ 1 → ⊥) → judged_group words pointers ≡ judged_before
  not_one_as_before other = as_before (λ one. other one.0)

  -- what was corrected is corrected alike
  pub still_corrected : (u : List ℕ) → judged_before ≡ corrected u → judged_group words pointers ≡ corrected u
  still_corrected u c = by (is_one_pointer words pointers) refl
    where
      by : (b : Bool) → is_one_pointer words pointers ≡ b → judged_group words pointers ≡ corrected u
      by true e =
          by_relied 0 (one_relied words pointers e)
          ∙ nine_anywhere values (λ k h. value_on_lt k (get_or words k 0)) (pointed words pointers) (one_pointed words pointers e) u c
      by false e = by_relied (pointed words pointers) (others_relied words pointers e) ∙ c

  -- ---- the refusals

  -- 4 is given exactly where three or more tracks are pointed, as before
  pub many_told : judged_group words pointers ≡ many_pointed → 3 ≤ length pointed_here
  unfolding judged_group
  many_told e = relied_many words pointers (nine_many values (relied words pointers) e)

  pub told_many : 3 ≤ length pointed_here → judged_group words pointers ≡ many_pointed
  unfolding judged_group
  told_many h = many_nine values (relied words pointers) (pointed_many words pointers h)

  -- 5 is given for no group for which it was not given before
  pub still_none : judged_group words pointers ≡ no_group → judged_before ≡ no_group
  still_none n = by judged_before refl
    where
      by : (j : Judgement) → judged_before ≡ j → j ≡ no_group
      by (corrected u) e = let z : corrected u ≡ no_group = sym (still_corrected u e) ∙ n in z
      by many_pointed e = sym (told_many (nine_many values (pointed words pointers) e)) ∙ n
      by no_group e = refl

-- ---- the record

-- a reading, and the same with some pointers left out, each of a group with just one pointed, legal track: once lengths, space and stray bits
-- have passed, both are answered alike, with the same data and the same changed tracks
module _ (backward : Bool) (words maps fewer : List ℕ) (as_many : length fewer ≡ length maps)
    (left_out : (g : ℕ) → g < length maps
    → (read_map backward words fewer g ≡ read_map backward words maps g)
    ⊎ ((read_map backward words fewer g ≡ 0) × JustOne (read_group backward words maps g) (read_map backward words maps g))) where
  same_group : (g : ℕ) → g < length maps → read_group backward words fewer g ≡ read_group backward words maps g
  unfolding read_group
  same_group g h = ap (λ (n : ℕ). group_read backward n words g) as_many

  same_judgement : (g : ℕ) → g < length maps → judgement backward words fewer g ≡ judgement backward words maps g
  unfolding judgement
  same_judgement g h = by (left_out g h)
    where
      by : (read_map backward words fewer g ≡ read_map backward words maps g)
          ⊎ ((read_map backward words fewer g ≡ 0) × JustOne (read_group backward words maps g) (read_map backward words maps g))
          → judgement backward words fewer g ≡ judgement backward words maps g
      by (inl e) = ap₂ judged_group (same_group g h) e
      by (inr (e, one)) = ap₂ judged_group (same_group g h) e ∙ sym (as_if_unpointed _ _ one)

  pub left_out_answer : judged_answer backward words fewer ≡ judged_answer backward words maps
  left_out_answer = same_answer backward backward words maps words fewer as_many same_group same_judgement

  pub left_out_data : read_data backward words fewer ≡ read_data backward words maps
  left_out_data = same_data backward backward words maps words fewer as_many same_group same_judgement

  pub left_out_changed : changed_maps backward words fewer ≡ changed_maps backward words maps
  left_out_changed = same_maps backward backward words maps words fewer as_many same_group same_judgement
