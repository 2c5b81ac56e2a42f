-- What reading an 800 record delivers is what fits, if nothing else does (the notice, third term): a record that fits is the candidate
-- of a track that holds, and the candidate of a track that holds fits.
-- Assumes nothing.
use mathlib.Core.Path.{◌≡◌, refl, sym, ap, ◌∙◌}
use mathlib.Core.Bool.{Bool, true, false, cond}
use mathlib.Core.List.{List, ◌∷◌}
use Prim.Native.Nat.{ℕ, ◌+◌, ◌-◌, ◌*◌, ◌%◌, ◌^◌, ◌<◌}
use native.Mathlib.Decide.{ℕ_discrete, dec_lt}
use native.Mathlib.Nat.{le_of_eq, mod-lt, zero-lt-suc}
use native.Mathlib.Omega.{arith}
use borrow.Author.Tests.{eq-eqb, ne_eqb, lt-ltb, le-ltb}
use lib.Dec.{eqb}
use lib.ListN.{length, get_or, get_or-eq_default}
use lib.Pow.{pow_pos}
use lib.Seq.{ext_get_or}
use Rattle.answer.specs.Answer.{Answer, delivered}
use Rattle.indexed.specs.List.{tabulate, total}
use Rattle.indexed.proofs.Below.{first_below_at, first_below_none}
use Rattle.indexed.proofs.Tabulate.{length_tabulate, get_d_tabulate, tabulate_same}
use Rattle.indexed.proofs.Differ.{differences_none}
use Rattle.indexed.proofs.Total.{total_same, differences_total}
use Rattle.register.specs.Bit.{bit}
use Rattle.register.specs.Parity.{parity}
use Rattle.register.specs.Sum.{xor_sum}
use Rattle.register.specs.Xor.{◌⊕◌}
use Rattle.register.proofs.Held.{held_ext}
use Rattle.register.proofs.Sum.{sum_ext}
use Rattle.cyclic.specs.Constants.{feedback, offset, tracks, checks}
use Rattle.record800.specs.Fits.{IsData, Passes, Fits, differences_in, track_changed, characters_changed, track_differences}
use Rattle.record800.specs.Read.{picture, track_changes, expected_parity, wrong, wrong_count, candidate, holds, judged_answer, judged_data, read_data}
use Rattle.record800.specs.Record.{check_sum, written_record}
use Rattle.record800.proofs.Apart.{other_bit, change_counted, change_counted_bit, one_apart}
use Rattle.record800.proofs.Candidate.{wrong_lt, candidate_same, candidate_written, sums_hold, tracks_apart}
use Rattle.record800.proofs.Recorded.{length_record, record_lt, record_check_sum, record_longitudinal_sum, record_parity, bytes_back}
use Rattle.record800.proofs.Judged.{Judged, clean, one, several, none, judged, bytes_of, data_first, data_only}
use Rattle.record800.proofs.Picture.{lengths_within, as_counted, picture_below}
use Rattle.answer.proofs.Apart.{not_both}

module _ (backward : Bool) (characters : List ℕ) (passes : Passes backward characters) where
  -- the number of data characters, and the forward picture
  abbrev n : ℕ
  n = length characters - checks

  abbrev l : List ℕ
  l = picture backward characters

  abbrev FitsHere : List ℕ → Type 0
  FitsHere bytes = Fits backward characters bytes

  -- ---- what fits is a candidate

  module _ (bytes : List ℕ) (f : FitsHere bytes) where
    abbrev right : ℕ → ℕ
    right k = get_or (written_record bytes) k 0

    as_many : length bytes ≡ n
    as_many = omega (arith, f.as_long)

    right_parity : (k : ℕ) → k < n + checks → parity (right k) ≡ expected_parity n l k
    right_parity k h =
        record_parity bytes f.are_data.are_bytes l k (omega (arith, as_many)) ∙ ap (λ (m : ℕ). expected_parity m l k) as_many

    -- each character has the parity that was expected, and differs in the track at most
    right_candidate : (k : ℕ) → k < n + checks → right k ≡ candidate n l f.track k
    unfolding candidate wrong
    right_candidate k h =
        one_apart (get_or l k 0) (right k) f.track (picture_below backward characters passes k) (record_lt bytes f.are_data.are_bytes k)
        f.is_track (λ i b apart. f.one_track i b apart k (omega (arith, as_counted backward characters passes)))
        ∙ ap (λ (e : ℕ). get_or l k 0 ⊕ (parity (get_or l k 0) ⊕ e) * 2 ^ f.track) (right_parity k h)

    check_right : check_sum (n + 1) (candidate n l f.track) ≡ offset
    check_right =
        held_ext 9 feedback 0 (n + 1) _ _ (λ k h. sym (right_candidate k (omega arith)))
        ∙ ap (λ (m : ℕ). check_sum (m + 1) right) (sym as_many)
        ∙ record_check_sum bytes

    longitudinal_right : xor_sum (n + checks) (candidate n l f.track) ≡ 0
    longitudinal_right =
        sum_ext (n + checks) _ _ (λ k h. sym (right_candidate k h))
        ∙ ap (λ (m : ℕ). xor_sum (m + checks) right) (sym as_many)
        ∙ record_longitudinal_sum bytes

    pub fits_candidate : (written_record bytes ≡ tabulate (n + checks) (candidate n l f.track)) × (holds n l f.track ≡ true)
    fits_candidate = (
      ext_get_or 0 _ _ (length_record bytes ∙ ap (λ (m : ℕ). m + checks) as_many ∙ sym (length_tabulate (n + checks) (candidate n l f.track)))
          (λ k h. let b : k < n + checks = omega (arith, length_record bytes, as_many) in
          right_candidate k b ∙ sym (get_d_tabulate (n + checks) (candidate n l f.track) k 0 b)),
      sums_hold n l (picture_below backward characters passes) f.track f.is_track check_right longitudinal_right,
    )

    pub fits_bytes : bytes ≡ bytes_of n l f.track
    fits_bytes =
        sym (bytes_back bytes f.are_data.are_bytes)
        ∙ ap (λ (m : ℕ). tabulate m (λ k. right k % 256)) as_many
        ∙ tabulate_same n _ _ (λ k h. ap (λ (c : ℕ). c % 256) (right_candidate k (omega arith)))

    -- ---- what it changes

    -- no parity is wrong, and nothing differs
    module _ (none_wrong : wrong_count n l ≡ 0) where
      same : (k : ℕ) → k < length characters → get_or l k 0 ≡ right k
      same k h =
          let b : k < n + checks = omega (arith, as_counted backward characters passes) in
          sym (right_candidate k b ∙ candidate_same n l none_wrong f.track k b)

      in_none : (t : ℕ) → differences_in backward characters bytes t ≡ 0
      unfolding differences_in
      in_none t = differences_none _ _ (length characters) (λ k b. ap (bit t) (same k b))

      pub nothing_changed : (track_changed backward characters bytes ≡ tracks) × (characters_changed backward characters bytes ≡ 0)
          × (track_differences backward characters bytes ≡ track_changes tracks 0)
      unfolding track_changed characters_changed track_differences track_changes
      nothing_changed = (
        first_below_none tracks _ (λ t h. le-ltb 0 (differences_in backward characters bytes t) (le_of_eq (in_none t))),
        differences_none _ _ (length characters) same,
        tabulate_same tracks _ _ (λ t h. in_none t ∙ sym (either (eqb t tracks) 0)),
      )
        where
          either : (b : Bool) (x : ℕ) → cond b x x ≡ x
          either true x = refl
          either false x = refl

    -- or some are, and then the track differs in those characters
    module _ (some : 0 < wrong_count n l) where
      counted : (k : ℕ) → k < length characters → k < n + checks
      counted k h = omega (arith, as_counted backward characters passes)

      elsewhere : (t : ℕ) → t < tracks → (t ≡ f.track → ⊥) → differences_in backward characters bytes t ≡ 0
      unfolding differences_in
      elsewhere t h apart = differences_none _ _ (length characters) (λ k b. f.one_track t h apart k b)

      in_track : differences_in backward characters bytes f.track ≡ wrong_count n l
      unfolding differences_in wrong_count candidate
      in_track =
          differences_total (length characters) _ _
          ∙ total_same (length characters) _ _
          (λ k h. ap (λ (c : ℕ). cond (eqb (bit f.track (get_or l k 0)) (bit f.track c)) 0 1) (right_candidate k (counted k h))
          ∙ change_counted_bit (get_or l k 0) (wrong n l k) f.track (wrong_lt n l k) f.is_track)
          ∙ ap (λ (m : ℕ). total m (wrong n l)) (sym (as_counted backward characters passes))

      characters_wrong : characters_changed backward characters bytes ≡ wrong_count n l
      unfolding characters_changed wrong_count candidate
      characters_wrong =
          differences_total (length characters) _ _
          ∙ total_same (length characters) _ _
          (λ k h. ap (λ (c : ℕ). cond (eqb (get_or l k 0) c) 0 1) (right_candidate k (counted k h))
          ∙ change_counted (get_or l k 0) (wrong n l k) (2 ^ f.track) (wrong_lt n l k) (pow_pos f.track))
          ∙ ap (λ (m : ℕ). total m (wrong n l)) (sym (as_counted backward characters passes))

      pub changed : (track_changed backward characters bytes ≡ f.track) × (characters_changed backward characters bytes ≡ wrong_count n l)
          × (track_differences backward characters bytes ≡ track_changes f.track (wrong_count n l))
      unfolding track_changed track_differences track_changes
      changed = (
        first_below_at tracks _ f.track f.is_track
            (λ t h. le-ltb 0 (differences_in backward characters bytes t) (le_of_eq (elsewhere t (omega (arith, f.is_track)) (λ q. omega arith))))
            (lt-ltb 0 (differences_in backward characters bytes f.track) (rw in_track some)),
        characters_wrong,
        tabulate_same tracks _ _ (λ t h. by t h (ℕ_discrete t f.track)),
      )
        where
          by : (t : ℕ) → t < tracks → Dec (t ≡ f.track)
              → differences_in backward characters bytes t ≡ cond (eqb t f.track) (wrong_count n l) 0
          by t h (yes is) =
              ap (differences_in backward characters bytes) is
              ∙ in_track
              ∙ sym (ap (λ (b : Bool). cond b (wrong_count n l) 0) (eq-eqb t f.track is))
          by t h (no apart) = elsewhere t h apart ∙ sym (ap (λ (b : Bool). cond b (wrong_count n l) 0) (ne_eqb t f.track apart))

  -- ---- a candidate fits, if its track holds

  module _ (j : ℕ) (is_track : j < tracks) (held : holds n l j ≡ true) where
    candidate_record : (k : ℕ) → k < n + checks → get_or (written_record (bytes_of n l j)) k 0 ≡ candidate n l j k
    candidate_record k h =
        ap (λ (r : List ℕ). get_or r k 0) (candidate_written n l (picture_below backward characters passes) j is_track held)
        ∙ get_d_tabulate (n + checks) (candidate n l j) k 0 h

    candidate_data : IsData (bytes_of n l j)
    candidate_data = record {
      some = omega (arith, length_tabulate n (λ k. candidate n l j k % 256), (lengths_within backward characters passes).0);
      within = omega (arith, length_tabulate n (λ k. candidate n l j k % 256), (lengths_within backward characters passes).1);
      are_bytes = λ k. by k (dec_lt k n);
    }
      where
        by : (k : ℕ) → Dec (k < n) → get_or (bytes_of n l j) k 0 < 256
        by k (yes h) = rw (get_d_tabulate n (λ k. candidate n l j k % 256) k 0 h) (mod-lt (candidate n l j k) (zero-lt-suc 255))
        by k (no h) =
            rw (get_or-eq_default (bytes_of n l j) 0 {n = k} (omega (arith, length_tabulate n (λ k. candidate n l j k % 256)))) (zero-lt-suc 255)

    pub candidate_fits : FitsHere (bytes_of n l j)
    unfolding candidate
    candidate_fits = record {
      are_data = candidate_data;
      as_long = ap (λ (m : ℕ). m + checks) (length_tabulate n (λ k. candidate n l j k % 256)) ∙ as_counted backward characters passes;
      track = j;
      is_track = is_track;
      one_track = λ t h apart k b. sym (ap (bit t) (candidate_record k (omega (arith, as_counted backward characters passes)))
          ∙ other_bit (get_or l k 0) (wrong n l k) j (wrong_lt n l k) is_track t h apart);
    }

  -- two tracks that hold, if some parity is wrong, are of two records
  pub bytes_apart : 0 < wrong_count n l → (i j : ℕ) → i < j → j < tracks → holds n l i ≡ true → holds n l j ≡ true
      → bytes_of n l i ≡ bytes_of n l j → ⊥
  bytes_apart some i j h b p q e =
      tracks_apart n l some i j h
      (λ k r. sym (candidate_record i (omega arith) p k r)
      ∙ ap (λ (bytes : List ℕ). get_or (written_record bytes) k 0) e
      ∙ candidate_record j b q k r)

  -- ---- the only one that fits is delivered

  pub fits_delivered : (bytes : List ℕ) → FitsHere bytes → ((others : List ℕ) → FitsHere others → others ≡ bytes)
      → (judged_answer n l ≡ delivered (length bytes ∷ track_changed backward characters bytes ∷ characters_changed backward characters bytes ∷ track_differences backward characters bytes))
      × (read_data backward characters ≡ bytes)
  unfolding read_data
  fits_delivered bytes f only = by (judged n l)
    where
      answer : ℕ → ℕ → ℕ → List ℕ → Answer
      answer m t c each = delivered (m ∷ t ∷ c ∷ each)

      -- what is told is what differs
      told : (t c : ℕ) → track_changed backward characters bytes ≡ t → characters_changed backward characters bytes ≡ c
          → track_differences backward characters bytes ≡ track_changes t c
          → answer n t c (track_changes t c) ≡ answer (length bytes) (track_changed backward characters bytes) (characters_changed backward characters bytes) (track_differences backward characters bytes)
      told t c p q r = cc (as_many bytes f)

      by : Judged n l (judged_answer n l)
          → (judged_answer n l ≡ answer (length bytes) (track_changed backward characters bytes) (characters_changed backward characters bytes) (track_differences backward characters bytes))
          × (judged_data n l ≡ bytes)
      by (clean e h a) =
          let none = nothing_changed bytes f e in
          (a ∙ told tracks 0 none.0 none.1 none.2, data_first n l h ∙ only (bytes_of n l 0) (candidate_fits 0 (omega arith) h))
      by (one some j b h alone a) =
          let is = changed bytes f some in
          let track = alone f.track f.is_track (fits_candidate bytes f).1 in (
            a
                ∙ told j (wrong_count n l) (is.0 ∙ track) is.1 (is.2 ∙ ap (λ (t : ℕ). track_changes t (wrong_count n l)) track),
            data_only n l j b h alone ∙ only (bytes_of n l j) (candidate_fits j b h),
          )
      by (several some i j h b p q a) =
          absurd (bytes_apart some i j h b p q
          (only (bytes_of n l i) (candidate_fits i (omega arith) p) ∙ sym (only (bytes_of n l j) (candidate_fits j b q))))
      by (none nothing a) = absurd (nothing f.track f.is_track (fits_candidate bytes f).1)

  -- ---- what is delivered fits, and nothing else does

  pub delivered_fits : (values : List ℕ) → judged_answer n l ≡ delivered values
      → (bytes : List ℕ) × FitsHere bytes × ((others : List ℕ) → FitsHere others → others ≡ bytes)
  delivered_fits values e = by (judged n l)
    where
      by : Judged n l (judged_answer n l) → (bytes : List ℕ) × FitsHere bytes × ((others : List ℕ) → FitsHere others → others ≡ bytes)
      by (clean w h a) = (
        bytes_of n l 0,
        candidate_fits 0 (omega arith) h,
        λ others f. fits_bytes others f
            ∙ tabulate_same n _ _
            (λ k b. ap (λ (c : ℕ). c % 256)
            (candidate_same n l w f.track k (omega arith) ∙ sym (candidate_same n l w 0 k (omega arith)))),
      )
      by (one some j b h alone a) = (
        bytes_of n l j,
        candidate_fits j b h,
        λ others f. fits_bytes others f ∙ ap (bytes_of n l) (alone f.track f.is_track (fits_candidate others f).1),
      )
      by (several some i j h b p q a) = absurd (not_both values 8 0 (sym e ∙ a))
      by (none nothing a) = absurd (not_both values 7 0 (sym e ∙ a))
