-- Powers of T as matrices, by their columns: T is the multiplication by X modulo g = 1 + X^3 + X^4 + X^5 + X^8 of the 6250
-- code (document 000, equation (1)), and column k is the power times X^k. That they are is shown in
-- proofs/Power.antt.
-- Assumes nothing.
use Rattle.std.specs.Prelude.{List, [], ◌∷◌, ℕ}

-- T^8
abbrev pub eighth_power : List ℕ
eighth_power = 57 ∷ 114 ∷ 228 ∷ 241 ∷ 219 ∷ 143 ∷ 39 ∷ 78 ∷ []

-- T^-7, which is T^10
abbrev pub seventh_inverse : List ℕ
seventh_inverse = 228 ∷ 241 ∷ 219 ∷ 143 ∷ 39 ∷ 78 ∷ 156 ∷ 1 ∷ []
