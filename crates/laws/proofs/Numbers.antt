-- How two numbers stand to each other.
-- Assumes nothing.
use mathlib.Core.Path.{◌≡◌}
use mathlib.Core.Logic.{◌⊎◌, inl, inr}
use Prim.Native.Nat.{ℕ, ◌≤◌, ◌<◌}
use native.Mathlib.Omega.{arith}
use borrow.Author.Tests.{ltb-true, ltb-false}
use lib.Dec.{ltb}
use Rattle.laws.proofs.Choice.{either_way}

pub lt_cases : (a b : ℕ) → (a < b) ⊎ (b ≤ a)
lt_cases a b = either_way (ltb a b) (λ e. inl (ltb-true a b e)) (λ e. inr (ltb-false a b e))

pub either_side : (a b : ℕ) → (a ≡ b → ⊥) → (a < b) ⊎ (b < a)
either_side a b n = either_way (ltb a b) (λ e. inl (ltb-true a b e)) (λ e. inr (omega (arith, ltb-false a b e)))
