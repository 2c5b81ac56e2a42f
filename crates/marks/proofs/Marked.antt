-- The marks, from their parts.
-- Assumes nothing.
use Rattle.std.proofs.Common.{◌≡◌, refl, sym, ap, ◌∙◌, ℕ, ◌+◌, ◌-◌, ◌*◌, ◌<◌, ◌≤◌, Bool, false, not, ◌&&◌, List, ◌++◌, Option, ◌⊎◌, inl, inr, eqb, length, get_or, drop, arith, length-append, length-drop}
use Rattle.std.proofs.lemmas.Bool.{cases_lt}
use Rattle.std.proofs.lemmas.List.{ext_get_or, get_or_append_left, get_or-append-add, get_or-drop}
use Rattle.indexed.specs.List.{tabulate}
use Rattle.indexed.proofs.Tabulate.{get_d_tabulate, length_tabulate}
use Rattle.slices.specs.Turned.{turned_place}
use Rattle.rectangular.specs.Constants.{tracks, numbers_per_group}
use Rattle.group_code.specs.Word.{forward_word}
use Rattle.record6250.specs.Picture.{group_lent, group_read, map_read}
use Rattle.record6250.specs.Tape.{numbers_at, words_from}
use Rattle.record6250.proofs.Tape.{get_or_numbers_at}
use Rattle.marks.specs.declared.marks.View.{View}
use Rattle.marks.specs.declared.marks.Pointer.{Pointer}
use Rattle.marks.specs.Marks.{mark_of, marked, pointer_of, word_read, group_mark}

-- a word of a group, from its parts
pub word_read_is : (backward : Bool) (words : List ℕ) (groups g track place word : ℕ) → track < tracks
    → place ≡ turned_place backward groups g
    → word ≡ forward_word backward (get_or words (numbers_per_group * place + track) 0)
    → word ≡ word_read backward words groups g track
unfolding word_read group_read group_lent words_from
word_read_is backward words groups g track place word h hp hw =
    let at = numbers_per_group * turned_place backward groups g in
    hw
    ∙ ap (λ (p : ℕ). forward_word backward (get_or words (numbers_per_group * p + track) 0)) hp
    ∙ sym (get_d_tabulate tracks (λ k. forward_word backward (get_or (numbers_at words at) k 0)) track 0 h
    ∙ ap (forward_word backward) (get_or_numbers_at words at track h))

-- a group's mark, from its parts
pub group_mark_is : (view : View) (words maps right : List ℕ) (g track place word kept mark m : ℕ) (pointer : Option Pointer) (changed : Bool)
    → word ≡ word_read view.backward words (length maps) g track
    → kept ≡ word_read false right (length maps) g track
    → place ≡ turned_place view.backward (length maps) g
    → pointer ≡ pointer_of (get_or maps place 0) word track
    → changed ≡ (view.delivered && not (eqb word kept))
    → mark ≡ mark_of pointer changed
    → m ≡ marked view.refused g mark
    → m ≡ group_mark view words maps right g track
unfolding group_mark map_read
group_mark_is view words maps right g track place word kept mark m pointer changed hw hk ha hp hc hm h =
    rw (h, hm, hp, hc, hk, hw, ha) refl

-- the values of a function at the front of a list, and behind them what stood there
pub tabulated : (n : ℕ) (f : ℕ → ℕ) (out l : List ℕ) → n ≤ length out → length l ≡ length out
    → ((k : ℕ) → k < n → get_or l k 0 ≡ f k) → ((k : ℕ) → n ≤ k → get_or l k 0 ≡ get_or out k 0)
    → l ≡ tabulate n f ++ drop n out
tabulated n f out l h long front behind =
    let all = length-append (tabulate n f) (drop n out) in
    let size = length_tabulate n f in
    ext_get_or 0 l (tabulate n f ++ drop n out) (omega (arith, all, size, length-drop n out)) (λ k inside. at k (cases_lt k n))
  where
    at : (k : ℕ) → (k < n) ⊎ (n ≤ k) → get_or l k 0 ≡ get_or (tabulate n f ++ drop n out) k 0
    at k (inl below) =
        let size = length_tabulate n f in
        front k below ∙ sym (get_or_append_left (tabulate n f) (drop n out) 0 k (omega (arith, size)) ∙ get_d_tabulate n f k 0 below)
    at k (inr above) =
        let size = length_tabulate n f in
        let parted : k ≡ length (tabulate n f) + (k - n) = omega (arith, size) in
        let rejoined : n + (k - n) ≡ k = omega arith in
        behind k above
        ∙ sym (ap (λ (i : ℕ). get_or (tabulate n f ++ drop n out) i 0) parted
        ∙ get_or-append-add (tabulate n f) (drop n out) (k - n) 0
        ∙ get_or-drop n out (k - n) 0
        ∙ ap (λ (i : ℕ). get_or out i 0) rejoined)
