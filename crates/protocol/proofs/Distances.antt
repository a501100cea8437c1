-- The 8-bit distance sorts as the segment numbers do.
-- Assumes nothing.
use mathlib.Core.Path.{◌≡◌}
use Prim.Native.Nat.{ℕ, ◌+◌, ◌-◌, ◌≤◌, ◌<◌}
use native.Mathlib.Omega.{arith}
use Rattle.protocol.specs.Numbers.{number_at, distance}

-- w is the index at the window's start, s that of a segment whose sequence number arrives: within the window, and not late
module _ (w s k : ℕ) (small : k ≤ 128) (ahead : s < w + k) (late : w ≤ s + (256 - k)) where
  pub new_near : w ≤ s → distance (number_at s) (number_at w) < k
  unfolding number_at distance
  new_near h = omega arith

  pub near_is : distance (number_at s) (number_at w) < k → w + distance (number_at s) (number_at w) ≡ s
  unfolding number_at distance
  near_is h = omega arith

  pub far_old : k ≤ distance (number_at s) (number_at w) → s < w
  unfolding number_at distance
  far_old h = omega arith

  -- within one window behind the start, the distance says so: such a repeat is acknowledged
  pub behind_far : 1 ≤ k → s < w → w ≤ s + k → 256 - k ≤ distance (number_at s) (number_at w)
  unfolding number_at distance
  behind_far p h e = omega arith

-- The limit is exact: one later, an old segment passes for a new one.
pub late_seems_new : (s k : ℕ) → 1 ≤ k → k ≤ 128 → distance (number_at s) (number_at (s + (257 - k))) < k
unfolding number_at distance
late_seems_new s k some small = omega arith
