-- Answers told apart: a delivery is no refusal, and a refusal has one number and one place.
-- Assumes nothing.
use mathlib.Core.Path.{◌≡◌}
use mathlib.Core.List.{List}
use Prim.Native.Nat.{ℕ}
use native.Mathlib.Omega.{arith}
use Rattle.answer.specs.Answer.{delivered, refused}

pub not_both : (values : List ℕ) (n p : ℕ) → delivered values ≡ refused n p → ⊥
not_both values n p e = let z : ◌≡◌ {A = ℕ} 0 1 = cc in omega arith

pub same_number : (a b x y : ℕ) → refused a x ≡ refused b y → a ≡ b
same_number a b x y e = cc

pub same_place : (a b x y : ℕ) → refused a x ≡ refused b y → x ≡ y
same_place a b x y e = cc
