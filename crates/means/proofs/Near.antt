-- An arrival moves the receiver's start on by at most the window, never back.
-- Assumes nothing.
use mathlib.Core.Path.{◌≡◌}
use mathlib.Core.Bool.{Bool, true, false}
use mathlib.Core.List.{List, [], ◌∷◌, ◌++◌}
use mathlib.Core.Option.{Option, none, some}
use Prim.Native.Nat.{ℕ, zero, suc, ◌+◌, ◌-◌, ◌≤◌}
use native.Mathlib.Omega.{arith}
use lib.Dec.{ltb, leb}
use lib.ListN.{length, length-append}
use Rattle.laws.specs.Choice.{if◌then◌else◌}
use Rattle.channel.specs.declared.record.Channel.{Channel}
use Rattle.channel.specs.Record.{receives}
use Rattle.channel.specs.Asked.{Asked}
use Rattle.channel.proofs.StandingLaws.{ringed}
use Rattle.protocol.specs.Numbers.{number_at, distance}
use Rattle.protocol.specs.Units.{Segment, on_way, fitting}
use Rattle.protocol.specs.Ends.{Limits, is_open, put}
use Rattle.protocol.specs.Receiving as receiver
use Rattle.protocol.specs.Receiving.{Receiver, ReceiverCall, start_of, moved_past, moved, receiver_step}
use Rattle.means.specs.Meaning.{limits_of, carried}
use Rattle.means.proofs.Receives.{Receives}

-- from n to at most k further
abbrev Near : ℕ → ℕ → ℕ → Type 0
Near k n m = (n ≤ m) × (m ≤ n + k)

module _ (c : Limits) where
  moved_near : (n : ℕ) (f : ℕ → Option Segment) (l : List Segment) → Near n (length l) (length (moved c n f l).0)
  moved_near zero f l = omega arith
  moved_near (suc n) f l =
      let fit = λ (g : Segment) (b : Bool). elim b as (λ b. Near (suc n) (length l) (length (if b then moved c n f (l ++ (g ∷ [])) else (l, false)).0)) [
        | true ↦ omega (arith, moved_near n f (l ++ (g ∷ [])), length-append l (g ∷ []))
        | false ↦ omega arith
      ]
      in
      let go = λ (o : Option Segment). elim o as
      (λ o. Near (suc n) (length l) (length (moved_past c o (λ g. moved c n f (l ++ (g ∷ []))) l).0)) [ none ↦ omega arith | some g ↦ fit g (fitting c.segments (on_way 0 l) g) ]
      in go (f (length l))

  module _ (r : Receiver) where
    abbrev To : Receiver → Type 0
    To q = Near c.window (start_of r) (start_of q)

    still : To r
    still = omega arith

    settled_near : (b : Bool) (f : ℕ → Option Segment) (l : List Segment) → Near c.window (start_of r) (length l) → To (receiver.moved_answer b r f l).0
    settled_near true f l h = h
    settled_near false f l h = h

    placed_near : (b : Bool) (i : ℕ) (g : Segment) → To (receiver.placed c b r i g).0
    placed_near false i g = still
    placed_near true i g =
        let f : ℕ → Option Segment = put r.filed i (some g) in
        let m = moved c c.window f r.passed in
        settled_near m.1 f m.0 (moved_near c.window f r.passed)

    in_window_near : (o : Option Segment) (i : ℕ) (g : Segment) → To (receiver.in_window c o r i g).0
    in_window_near (some x) i g = still
    in_window_near none i g = placed_near (ltb i (r.oldest + c.slots)) i g

    outside_near : (b : Bool) → To (receiver.outside b r).0
    outside_near true = still
    outside_near false = still

    sorted_near : (b : Bool) (d : ℕ) (g : Segment) → To (receiver.sorted c b r d g).0
    sorted_near true d g = in_window_near (r.filed (start_of r + d)) (start_of r + d) g
    sorted_near false d g = outside_near (leb (256 - c.window) d)

    pub arrived_near : (b : Bool) (d : ℕ) (g : Segment) → To (receiver.arrived c b r d g).0
    arrived_near false d g = still
    arrived_near true d g = sorted_near (ltb d c.window) d g

module _ (c : Channel) (mem lens : List ℕ) (r : Receiver) (asked : Asked c mem lens) (receiving : c.addresses.direction ≡ receives) (t : Receives c mem lens r)
    (number flags i : ℕ) (p : List ℕ) where
  pub data_near :
      (start_of r ≤ start_of (receiver_step (limits_of c.limits) r (ReceiverCall.arrival i number (carried flags p))).0)
      × (start_of (receiver_step (limits_of c.limits) r (ReceiverCall.arrival i number (carried flags p))).0 ≤ start_of r + 128)
  data_near =
      let few : c.limits.window ≤ 128 = (ringed c lens asked.standing).window in
      let n = arrived_near (limits_of c.limits) r (is_open r.phase) (distance number (number_at (start_of r))) (carried flags p) in
      (n.0, omega (arith, n.1))
