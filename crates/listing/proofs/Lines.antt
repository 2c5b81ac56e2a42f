-- The text of a listing grows word by word and group by group, and depends on the words that it lists only.
-- Assumes nothing.
use Prim.Native.Nat.{ℕ, ◌+◌, ◌-◌, ◌*◌, ◌<◌}
use mathlib.Core.Path.{◌≡◌, sym, ap, ◌∙◌}
use mathlib.Core.List.{List, ◌++◌}
use native.Mathlib.Nat.{zero-add}
use native.Mathlib.Numerals.{add-one}
use native.Mathlib.Omega.{arith}
use lib.ListN.{length, get_or, take, drop, length-drop}
use lib.Seq.{take_all}
use Rattle.std.proofs.Common.{get_or-take, get_or-drop}
use Rattle.indexed.specs.List.{blocks}
use Rattle.indexed.proofs.Blocks.{blocks_same}
use Rattle.rectangular.specs.Constants.{numbers_per_group}
use Rattle.page.specs.Ascii.{ascii}
use Rattle.page.specs.Page.{PageText, whole_text, Printed}
use Rattle.page.proofs.Printed.{after_none, printed_both}
use Rattle.listing.specs.Listing.{word_text, group_text, record_text}

-- no block of text, and one more
pub blocks_none : (f : ℕ → List ℕ) (page : PageText) → Printed (blocks 0 f) page page
unfolding blocks
blocks_none f page = sym (after_none (whole_text page))

pub blocks_more : (n : ℕ) (f : ℕ → List ℕ) (p q r : PageText) → Printed (blocks n f) p q → Printed (f n) q r → Printed (blocks (n + 1) f) p r
unfolding blocks
blocks_more n f p q r s t = rw (add-one n) (printed_both (blocks n f) (f n) p q r s t)

-- the text of a record is that of its words
pub record_same : (groups : ℕ) (words others : List ℕ) → ((k : ℕ) → k < numbers_per_group * groups → get_or words k 0 ≡ get_or others k 0) → record_text words groups ≡ record_text others groups
record_same groups words others same =
    blocks_same groups (λ g. group_text words (numbers_per_group * g)) (λ g. group_text others (numbers_per_group * g)) (λ g b.
    ap (λ (t : List ℕ). t ++ ascii "\n") (blocks_same numbers_per_group (λ j. word_text j (get_or words (numbers_per_group * g + j) 0)) (λ j. word_text j (get_or others (numbers_per_group * g + j) 0))
    (λ j c. ap (word_text j) (same (numbers_per_group * g + j) (omega arith)))))

-- the line of the group in front of what stands from an index on is that of the group at the index
pub group_at : (words : List ℕ) (at : ℕ) → group_text (take (length words - at) (drop at words)) 0 ≡ group_text words at
group_at words at =
    ap (λ l. group_text l 0) (take_all (length words - at) (drop at words) (omega (arith, length-drop at words)))
    ∙ ap (λ (t : List ℕ). t ++ ascii "\n")
    (blocks_same numbers_per_group (λ j. word_text j (get_or (drop at words) (0 + j) 0)) (λ j. word_text j (get_or words (at + j) 0)) (λ j b.
    ap (word_text j) (get_or-drop at words (0 + j) 0 ∙ ap (λ k. get_or words (at + k) 0) (zero-add j))))

-- and so is a word of those in front
pub front_word : (words : List ℕ) (n j : ℕ) → j < n → get_or (take n words) j 0 ≡ get_or words (0 + j) 0
front_word words n j h = get_or-take n words j 0 h ∙ ap (λ k. get_or words k 0) (sym (zero-add j))
