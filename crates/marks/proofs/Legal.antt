-- Whether a word is legal, as the group code's reading tells it.
-- Assumes nothing.
use Prim.Native.Nat.{ℕ, ◌+◌, ◌*◌, ◌/◌, ◌<◌}
use mathlib.Core.Path.{◌≡◌, refl, sym, ap}
use mathlib.Core.Bool.{Bool, true, false, cond, not}
use native.Mathlib.Omega.{arith}
use borrow.Author.Tests.{ltb-true}
use lib.Dec.{eqb}
use Rattle.group_code.specs.Code.{decoded, legal}
use Rattle.group_code.specs.Word.{legal_word, value_of, illegality, forward_word}
use Rattle.group_code.proofs.Facts.{legal_is_code, code_lt}
use Rattle.group_code.proofs.Words.{value_lt}

-- a value of more than five bits is no code
legal_small : (code : ℕ) → legal code ≡ true → code < 32
unfolding legal
legal_small code e = rw (sym (legal_is_code code e)) (code_lt (decoded code) (ltb-true _ _ e))

wide_illegal : (code : ℕ) → 31 < code → legal code ≡ false
wide_illegal code h = by (legal code) refl
  where
    by : (b : Bool) → legal code ≡ b → legal code ≡ false
    by true e = absurd (let small = legal_small code e in omega arith)
    by false e = e

-- so a word of more than ten bits is illegal
pub stray_illegal : (word : ℕ) → 1023 < word → true ≡ not (legal_word word)
unfolding legal_word
stray_illegal word h = rw (wide_illegal (word / 32) (omega arith)) refl

-- what reading a word tells beside its value
pub read_illegal : (word read : ℕ) → read ≡ value_of (forward_word false word) + 256 * illegality (forward_word false word) → eqb (read / 256) 1 ≡ not (legal_word word)
unfolding forward_word illegality
read_illegal word read e = told (legal_word word) (value_lt word) e
  where
    told : (b : Bool) → value_of word < 256 → read ≡ value_of word + 256 * cond b 0 1 → eqb (read / 256) 1 ≡ not b
    told true h e = let none : read / 256 ≡ 0 = omega arith in ap (λ (q : ℕ). eqb q 1) none
    told false h e = let one : read / 256 ≡ 1 = omega arith in ap (λ (q : ℕ). eqb q 1) one
