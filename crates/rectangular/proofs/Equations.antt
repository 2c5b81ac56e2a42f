-- Over the width: what is written satisfies the code's two equations, and whatever satisfies them is what is written from
-- its information characters, which are recovered.
-- Assumes nothing.
use mathlib.Core.Path.{◌≡◌, refl, sym, ap, ap₂, ◌∙◌}
use mathlib.Core.Bool.{Bool, cond}
use mathlib.Core.List.{List}
use Prim.Native.Nat.{ℕ, zero, suc, ◌-◌, ◌^◌, ◌<◌, ◌≤◌}
use native.Mathlib.Nat.{le_refl, lt_irrefl}
use native.Mathlib.Decide.{dec_lt}
use native.Mathlib.Omega.{arith}
use borrow.Author.Tests.{lt-ltb, le-ltb}
use lib.Bits.{xor_self}
use lib.ListN.{length, get_or, get_or-eq_default}
use lib.Pow.{pow_pos}
use lib.Seq.{ext_get_or}
use Rattle.indexed.specs.List.{tabulate}
use Rattle.indexed.proofs.Tabulate.{length_tabulate, get_d_tabulate}
use Rattle.register.specs.Shift.{shifts}
use Rattle.register.specs.Sum.{xor_sum}
use Rattle.register.specs.Xor.{◌⊕◌}
use Rattle.register.proofs.Shift.{shifts_lt}
use Rattle.register.proofs.Sum.{sum_ext, sum_lt, sum_first, sum_last}
use Rattle.register.proofs.Xor.{xor_zero→eq}
use Rattle.rectangular.specs.Group.{information, check, character, column, track, group, information_of, IsGroup}
use Rattle.rectangular.proofs.Symmetry.{column_lt, column_twice, column_ext, rows_against_columns}

-- every element has w bits
abbrev pub Below : ℕ → List ℕ → Type 0
Below w l = (k : ℕ) → get_or l k 0 < 2 ^ w

pub group_ext : (w f : ℕ) (u v : ℕ → ℕ) → ((k : ℕ) → k ≤ w → u k ≡ v k) → IsGroup w f u → IsGroup w f v
group_ext w f u v e g = record {
  bounds = λ k h. rw (← (e k h)) (g.bounds k h);
  parity = sum_ext (suc w) v u (λ k h. sym (e k (omega arith))) ∙ g.parity;
  checked = sum_ext w _ _ (λ k h. ap (shifts w f k) (sym (e k (omega arith)))) ∙ g.checked;
}

-- the two cases of a track
module _ (w f : ℕ) (info : List ℕ) where
  pub track_low : (j : ℕ) → j < w → track w f info j ≡ column w (character w f info) j
  unfolding track
  track_low j h = ap (λ (b : Bool). cond b (column w (character w f info) j) (xor_sum w (column w (character w f info)))) (lt-ltb j w h)

  pub track_parity : track w f info w ≡ xor_sum w (column w (character w f info))
  unfolding track
  track_parity = ap (λ (b : Bool). cond b (column w (character w f info) w) (xor_sum w (column w (character w f info)))) (le-ltb w w (le_refl w))

  -- a character that is not the check character
  pub character_information : (i : ℕ) → 0 < i → character w f info i ≡ information w info i
  unfolding character
  character_information zero h = absurd (lt_irrefl 0 h)
  character_information (suc i) h = refl

  pub get_or_group : (k : ℕ) → k ≤ w → get_or (group w f info) k 0 ≡ track w f info k
  unfolding group
  get_or_group k h = get_d_tabulate (suc w) (track w f info) k 0 (omega arith)

  pub length_group : length (group w f info) ≡ suc w
  unfolding group
  length_group = length_tabulate (suc w) (track w f info)

-- ---- what is written satisfies the equations

module _ (w f : ℕ) (positive : 0 < w) (fits : f < 2 ^ w) where
  -- a sum over the rows: the first, and the others
  row_first : (b : ℕ → ℕ) → xor_sum w (λ i. shifts w f i (b i)) ≡ b 0 ⊕ xor_sum (w - 1) (λ i. shifts w f (suc i) (b (suc i)))
  unfolding shifts
  row_first b =
      let e : w ≡ suc (w - 1) = omega arith in
      ap (λ (n : ℕ). xor_sum n (λ i. shifts w f i (b i))) e ∙ sum_first (w - 1) (λ i. shifts w f i (b i))

  module _ (info : List ℕ) (below : Below w info) where
    pub character_lt : (i : ℕ) → character w f info i < 2 ^ w
    unfolding character check information
    character_lt zero = sum_lt w (w - 1) _ (λ i h. shifts_lt w f _ _ fits (below (w - 1 - suc i)))
    character_lt (suc i) = below (w - 1 - suc i)

    rows_checked : xor_sum w (λ i. shifts w f i (character w f info i)) ≡ 0
    unfolding character check
    rows_checked = row_first (character w f info) ∙ xor_self (check w f info)

    bounded : (k : ℕ) → k ≤ w → track w f info k < 2 ^ w
    bounded k h = by (dec_lt k w)
      where
        by : Dec (k < w) → track w f info k < 2 ^ w
        by (yes b) = rw (track_low w f info k b) (column_lt w (character w f info) k)
        by (no b) =
            let e : k ≡ w = omega arith in
            rw (e, track_parity w f info) (sum_lt w w _ (λ j q. column_lt w (character w f info) j))

    pub written_is_group : IsGroup w f (track w f info)
    written_is_group = record {
      bounds = bounded;
      parity =
          sum_last w (track w f info)
          ∙ ap₂ ◌⊕◌ (sum_ext w _ _ (track_low w f info)) (track_parity w f info)
          ∙ xor_self (xor_sum w (column w (character w f info)));
      checked =
          sum_ext w _ _ (λ k h. ap (shifts w f k) (track_low w f info k h))
          ∙ rows_against_columns w f fits (character w f info) (λ i h. character_lt i)
          ∙ rows_checked;
    }

    -- and its information characters are recovered
    row_at : (k : ℕ) → k < w - 1 → column w (track w f info) (w - 1 - k) ≡ get_or info k 0
    unfolding information
    row_at k h =
        let back : w - 1 - (w - 1 - k) ≡ k = omega arith in
        column_ext w (track w f info) (column w (character w f info)) (track_low w f info) (w - 1 - k)
        ∙ column_twice w (character w f info) (w - 1 - k) (omega arith) (character_lt (w - 1 - k))
        ∙ character_information w f info (w - 1 - k) (omega arith)
        ∙ ap (λ (i : ℕ). get_or info i 0) back

    pub information_recovered : length info ≡ w - 1 → information_of w (track w f info) ≡ info
    unfolding information_of
    information_recovered long =
        ext_get_or 0 _ _ (length_tabulate (w - 1) rows ∙ sym long)
        (λ k h. let b : k < w - 1 = rw (length_tabulate (w - 1) rows) at h in get_d_tabulate (w - 1) rows k 0 b ∙ row_at k b)
      where
        rows : ℕ → ℕ
        rows k = column w (track w f info) (w - 1 - k)

  -- ---- whatever satisfies the equations is written

  module _ (v : ℕ → ℕ) (g : IsGroup w f v) where
    -- the sum over the values' columns is zero, by the symmetry
    columns_checked : xor_sum w (λ i. shifts w f i (column w v i)) ≡ 0
    columns_checked = rows_against_columns w f fits v (λ i h. g.bounds i (omega arith)) ∙ g.checked

    -- so the characters that are written again are the values' columns
    same_information : (i : ℕ) → 0 < i → i < w → information w (information_of w v) i ≡ column w v i
    unfolding information information_of
    same_information i p h =
        let back : w - 1 - (w - 1 - i) ≡ i = omega arith in
        get_d_tabulate (w - 1) (λ k. column w v (w - 1 - k)) (w - 1 - i) 0 (omega arith) ∙ ap (column w v) back

    same_check : check w f (information_of w v) ≡ column w v 0
    unfolding check
    same_check =
        sum_ext (w - 1) _ _ (λ i h. ap (shifts w f (suc i)) (same_information (suc i) (omega arith) (omega arith)))
        ∙ sym (xor_zero→eq (column w v 0) _ (sym (row_first (column w v)) ∙ columns_checked))

    same_character : (i : ℕ) → i < w → character w f (information_of w v) i ≡ column w v i
    unfolding character
    same_character zero h = same_check
    same_character (suc i) h = same_information (suc i) (omega arith) h

    -- and the tracks are the values
    same_column : (j : ℕ) → j < w → column w (character w f (information_of w v)) j ≡ v j
    same_column j h =
        column_ext w _ (column w v) same_character j ∙ column_twice w v j h (g.bounds j (omega arith))

    pub group_is_written : (k : ℕ) → k ≤ w → track w f (information_of w v) k ≡ v k
    group_is_written k h = by (dec_lt k w)
      where
        by : Dec (k < w) → track w f (information_of w v) k ≡ v k
        by (yes b) = track_low w f (information_of w v) k b ∙ same_column k b
        by (no b) =
            let e : k ≡ w = omega arith in
            ap (track w f (information_of w v)) e
            ∙ track_parity w f (information_of w v)
            ∙ sum_ext w _ v same_column
            ∙ xor_zero→eq (xor_sum w v) (v w) (sym (sum_last w v) ∙ g.parity)
            ∙ ap v (sym e)

    pub information_below : Below w (information_of w v)
    unfolding information_of
    information_below k = by (dec_lt k (w - 1))
      where
        by : Dec (k < w - 1) → get_or (tabulate (w - 1) (λ k. column w v (w - 1 - k))) k 0 < 2 ^ w
        by (yes b) = rw (get_d_tabulate (w - 1) (λ k. column w v (w - 1 - k)) k 0 b) (column_lt w v (w - 1 - k))
        by (no b) =
            rw (get_or-eq_default (tabulate (w - 1) (λ k. column w v (w - 1 - k))) 0 {n = k}
            (omega (arith, length_tabulate (w - 1) (λ k. column w v (w - 1 - k)))))
            (pow_pos w)

-- ---- as lists: a list of track values is a group of the code exactly if its parity and its check equation hold

pub group_of_list : (w f : ℕ) → 0 < w → f < 2 ^ w → (values : List ℕ) → length values ≡ suc w
    → IsGroup w f (λ k. get_or values k 0) → group w f (information_of w (λ k. get_or values k 0)) ≡ values
group_of_list w f positive fits values long g =
    ext_get_or 0 _ _ (length_group w f info ∙ sym long)
    (λ k h. let b : k ≤ w = omega (arith, length_group w f info) in get_or_group w f info k b ∙ group_is_written w f positive fits _ g k b)
  where
    info : List ℕ
    info = information_of w (λ k. get_or values k 0)
