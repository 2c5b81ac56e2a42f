-- The group code is one-to-one: decoding gives each number back, and a legal five-bit value is the code of what it decodes to.
-- Assumes nothing.
use mathlib.Core.Path.{◌≡◌, sym, ap, ◌∙◌}
use Prim.Native.Nat.{ℕ, ◌<◌}
use borrow.Author.Tests.{eqb-true, ltb-true, lt-ltb}
use lib.Dec.{eqb, ltb, eqb→eq, ltb→lt}
use mathlib.Core.Bool.{true}
use Rattle.indexed.specs.List.{first_where}
use Rattle.indexed.proofs.Test.{tested}
use Rattle.indexed.proofs.First.{first_passes}
use Rattle.group_code.specs.Code.{codes, code_of, decoded, legal}

pub decoded_code : (n : ℕ) → n < 16 → decoded (code_of n) ≡ n
unfolding decoded first_where
decoded_code n h = eqb→eq _ _ (tested 16 (λ n. eqb (decoded (code_of n)) n) tt n h)

-- so two numbers of one code are one number
pub code_injective : (m n : ℕ) → m < 16 → n < 16 → code_of m ≡ code_of n → m ≡ n
code_injective m n hm hn e = sym (decoded_code m hm) ∙ ap decoded e ∙ decoded_code n hn

-- the codes are legal, and what is legal is a code
pub code_legal : (n : ℕ) → n < 16 → legal (code_of n) ≡ true
unfolding legal
code_legal n h = lt-ltb (decoded (code_of n)) 16 (rw (decoded_code n h) h)

pub legal_is_code : (code : ℕ) → legal code ≡ true → code_of (decoded code) ≡ code
unfolding legal decoded
legal_is_code code e = eqb-true _ _ (first_passes (λ c. eqb c code) codes (ltb-true _ _ e))

pub code_lt : (n : ℕ) → n < 16 → code_of n < 32
code_lt n h = ltb→lt _ _ (tested 16 (λ n. ltb (code_of n) 32) tt n h)
