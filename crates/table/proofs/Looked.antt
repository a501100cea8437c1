-- Of how many are looked at: no more than there are, and where not all are, more than there may be.
-- Assumes nothing.
use Prim.Native.Nat.{ℕ, ◌≤◌, ◌<◌}
use native.Mathlib.Omega.{arith}
use borrow.Author.Tests.{ltb-true}
use lib.Dec.{ltb}
use Rattle.laws.proofs.Choice.{by_test}
use Rattle.table.specs.Surveying.{looked_at}

pub looked_within : (n : ℕ) → looked_at n ≤ n
looked_within n = by_test (λ (k : ℕ). k ≤ n) (ltb 16 n) 17 n (λ e. let h : 16 < n = ltb-true 16 n e in omega (arith, h)) (λ e. omega arith)

pub looked_enough : (n : ℕ) → looked_at n < n → 16 < looked_at n
looked_enough n = by_test (λ (k : ℕ). k < n → 16 < k) (ltb 16 n) 17 n (λ e h. omega arith) (λ e h. absurd (omega (arith, h)))
