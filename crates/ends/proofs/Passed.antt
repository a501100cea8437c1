-- What the start passes was handed out and acknowledged, and it stops at the first that is not: nothing beyond a gap is passed.
-- Assumes nothing.
use mathlib.Core.Path.{◌≡◌}
use mathlib.Core.List.{List}
use Prim.Native.Nat.{ℕ, ◌≤◌, ◌<◌}
use native.Mathlib.Omega.{arith}
use lib.ListN.{get_or}
use Rattle.slots.proofs.RingLaws.{run_le, run_set, run_ends}
use Rattle.channel.specs.declared.record.Channel.{Channel}
use Rattle.channel.specs.Standing.{Standing}
use Rattle.sender.specs.Directives.{place_at}
use Rattle.sender_acks.specs.Acks.{run_at}
use Rattle.channel.proofs.StandingLaws.{ringed}

module _ (c : Channel) (lens : List ℕ) (h : Standing c lens) where
  pub passed_acked : (i : ℕ) → i < run_at c → (i < c.window.flight) × (get_or c.acked (place_at c i) 0 ≡ 0 → ⊥)
  passed_acked i l =
      let r = ringed c lens h in
      let b = run_le c.acked c.limits.slots c.window.flight c.window.place in (
        omega arith,
        run_set c.acked c.limits.slots c.window.flight c.window.place i r.place (omega (arith, r.flight, r.ahead)) l,
      )

  pub stops_unacked : run_at c < c.window.flight → get_or c.acked (place_at c (run_at c)) 0 ≡ 0
  stops_unacked l =
      let r = ringed c lens h in
      run_ends c.acked c.limits.slots c.window.flight c.window.place r.place (omega (arith, r.flight, r.ahead)) l
