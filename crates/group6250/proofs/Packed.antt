-- The packed group is the group: folding the tracks gives the parity track.
-- Assumes nothing.
use mathlib.Core.Path.{◌≡◌, sym, ap, ap₂, ◌∙◌}
use mathlib.Core.List.{List, [], ◌∷◌, ◌++◌}
use Prim.Native.Nat.{ℕ, ◌+◌, ◌*◌, ◌/◌, ◌%◌, ◌^◌, ◌<◌}
use native.Mathlib.Nat.{div-one}
use native.Mathlib.Omega.{arith}
use lib.Bits.{xor_shr, xor_mod}
use lib.ListN.{length, get_or, length-append, get_or-append}
use lib.Seq.{get_or_at}
use lib.Pow.{shr-shr}
use Rattle.indexed.specs.List.{tabulate}
use Rattle.indexed.proofs.Test.{equal₂}
use Rattle.indexed.proofs.Tabulate.{length_tabulate, get_d_tabulate, tabulate_same, tabulate_last}
use Rattle.register.specs.Shift.{shifts}
use Rattle.register.specs.Sum.{xor_sum}
use Rattle.register.specs.Xor.{◌⊕◌}
use Rattle.register.proofs.Sum.{sum_ext, sum_last}
use Rattle.register.proofs.Xor.{xor_assoc, xor_left_comm}
use Rattle.rectangular.specs.Constants.{feedback}
use Rattle.rectangular.specs.Syndrome.{parity_syndrome, check_syndrome}
use Rattle.rectangular.specs.Group.{character, column, track, group}
use Rattle.group6250.specs.Packed.{byte_at, bytes_of, values_of, parity_byte, placed_at}
use Rattle.group6250.specs.declared.group.Group.{Group}
use Rattle.group6250.proofs.Bytes.{byte_of}
use Rattle.rectangular.proofs.Equations.{track_low, track_parity}

-- ---- folding

-- byte s of a number, s counted in bits
part : ℕ → ℕ → ℕ
part s a = a / 2 ^ s % 2 ^ 8

-- a number and itself shifted down, added: so are their bytes
fold : (s t a : ℕ) → part s (a ⊕ a / 2 ^ t) ≡ part s a ⊕ part (t + s) a
unfolding part
fold s t a =
    ap (λ (x : ℕ). x % 2 ^ 8) (xor_shr a (a / 2 ^ t) s)
    ∙ xor_mod (a / 2 ^ s) (a / 2 ^ t / 2 ^ s) 8
    ∙ ap (λ (x : ℕ). a / 2 ^ s % 2 ^ 8 ⊕ x % 2 ^ 8) (shr-shr a t s)

regroup : (a b c d e f g h : ℕ) → ((a ⊕ e) ⊕ (c ⊕ g)) ⊕ ((b ⊕ f) ⊕ (d ⊕ h)) ≡ a ⊕ b ⊕ c ⊕ d ⊕ e ⊕ f ⊕ g ⊕ h
regroup a b c d e f g h = simp (xor_assoc, xor_left_comm)

-- two halves, four quarters, eight bytes
pub folded : (x : ℕ)
    → ((x ⊕ x / 2 ^ 32) ⊕ (x ⊕ x / 2 ^ 32) / 2 ^ 16 ⊕ ((x ⊕ x / 2 ^ 32) ⊕ (x ⊕ x / 2 ^ 32) / 2 ^ 16) / 2 ^ 8) % 256 ≡ parity_byte x
unfolding parity_byte byte_at part xor_sum
folded x =
    let half : ℕ = x ⊕ x / 2 ^ 32 in
    let quarter : ℕ = half ⊕ half / 2 ^ 16 in
    ap (λ (y : ℕ). y % 256) (sym (div-one (quarter ⊕ quarter / 2 ^ 8)))
    ∙ fold 0 8 quarter
    ∙ ap₂ ◌⊕◌ (fold 0 16 half ∙ ap₂ ◌⊕◌ (fold 0 32 x) (fold 16 32 x)) (fold 8 16 half ∙ ap₂ ◌⊕◌ (fold 8 32 x) (fold 24 32 x))
    ∙ regroup (part 0 x) (part 8 x) (part 16 x) (part 24 x) (part 32 x) (part 40 x) (part 48 x) (part 56 x)

-- ---- the group that is written

-- tracks that are the columns of the characters, and the parity track beside them
pub packed_is_group : (info : List ℕ) (tracks p : ℕ) → bytes_of tracks ≡ tabulate 8 (column 8 (character 8 feedback info)) → p ≡ parity_byte tracks
    → tabulate 8 (λ j. byte_at j tracks) ++ (p ∷ []) ≡ group 8 feedback info
unfolding group parity_byte
packed_is_group info tracks p columns e =
    let track_is : (j : ℕ) → j < 8 → byte_at j tracks ≡ column 8 (character 8 feedback info) j = λ j h. byte_of tracks _ columns j h in
    ap₂ (λ (l : List ℕ) (p : ℕ). l ++ (p ∷ []))
    (tabulate_same 8 _ _ (λ j h. track_is j h ∙ sym (track_low 8 feedback info j h)))
    (e ∙ sum_ext 8 _ _ track_is ∙ sym (track_parity 8 feedback info))
    ∙ sym (tabulate_last 8 (track 8 feedback info))

-- ---- the nine values of a packed group

module _ (g : Group) where
  pub length_values : length (values_of g) ≡ 9
  unfolding values_of
  length_values = length-append (tabulate 8 (λ j. byte_at j g.tracks)) (g.parity ∷ []) ∙ ap (λ (n : ℕ). n + 1) (length_tabulate 8 (λ j. byte_at j g.tracks))

  pub value_low : (j : ℕ) → j < 8 → get_or (values_of g) j 0 ≡ byte_at j g.tracks
  unfolding values_of
  value_low j h =
      let front : ℕ → ℕ = λ j. byte_at j g.tracks in
      get_or-append (tabulate 8 front) (g.parity ∷ []) 0 j (omega (arith, length_tabulate 8 front))
      ∙ get_d_tabulate 8 front j 0 h

  pub value_parity : get_or (values_of g) 8 0 ≡ g.parity
  unfolding values_of
  value_parity = get_or_at (tabulate 8 (λ j. byte_at j g.tracks)) g.parity [] 0 8 (length_tabulate 8 (λ j. byte_at j g.tracks))

  -- its syndromes, from the packed tracks and the parity track
  pub parity_syndrome_lem : (p : ℕ) → p ≡ parity_byte g.tracks → p ⊕ g.parity ≡ parity_syndrome 8 (λ k. get_or (values_of g) k 0)
  unfolding parity_byte parity_syndrome
  parity_syndrome_lem p e =
      ap (λ (x : ℕ). x ⊕ g.parity) e
      ∙ sym (sum_last 8 (λ k. get_or (values_of g) k 0) ∙ ap₂ ◌⊕◌ (sum_ext 8 _ _ value_low) value_parity)

  pub check_syndrome_lem : (s : ℕ) → s ≡ check_syndrome 8 feedback (λ j. byte_at j g.tracks) → s ≡ check_syndrome 8 feedback (λ k. get_or (values_of g) k 0)
  unfolding check_syndrome
  check_syndrome_lem s e = e ∙ sum_ext 8 _ _ (λ j h. ap (shifts 8 feedback j) (sym (value_low j h)))

-- ---- a value in its place

-- the shift loses no bit
pub placed_fits : (t e : ℕ) → t < 8 → e < 256 → e * 2 ^ (8 * t) % 2 ^ 64 ≡ placed_at t e
unfolding placed_at
placed_fits = equal₂ 8 256 (λ t e. e * 2 ^ (8 * t) % 2 ^ 64) placed_at tt
