-- A run of stores is a copy into a part of a list.
-- Assumes nothing.
use Rattle.std.proofs.Common.{◌≡◌, sym, ap, ◌∙◌, ℕ, ◌+◌, ◌≤◌, List, ◌++◌, length, take, drop, append_assoc}
use Rattle.std.proofs.lemmas.List.{drop-drop}
use Rattle.std.proofs.lemmas.List.Edits.{sets, sets-eq}
use borrow.Rule.Slice.PartMut.{put_mid}
use mathlib.Core.Path.{ap₂}

pub stored_part : (at k : ℕ) (before part after : List ℕ) → part ≡ after → k ≡ length after → at + length after ≤ length before
    → put_mid at k before part ≡ sets before at after
stored_part at k before part after copied long room =
    ap (λ l. take at before ++ l) (ap₂ (λ (a : List ℕ) (b : List ℕ). a ++ b) copied (drop-drop k at before ∙ ap (λ n. drop (at + n) before) long))
    ∙ sym (append_assoc (take at before) after (drop (at + length after) before))
    ∙ sym (sets-eq after before at room)
