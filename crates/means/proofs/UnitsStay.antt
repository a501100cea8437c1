-- The units that a record holds, where a step leaves its segments: they are the same. So a sender that goes inactive holds what it held, whatever the
-- reason, an unanswered Heartbeat among them (document 02, A2); and no tick, at either end, changes what is held.
-- Assumes nothing.
use mathlib.Core.Path.{◌≡◌, refl, sym, ap, ap₂, ◌∙◌}
use mathlib.Core.Bool.{Bool, true, false}
use mathlib.Core.List.{List, [], ◌∷◌, ◌++◌}
use Prim.Native.Nat.{ℕ, zero, suc, ◌+◌}
use native.Mathlib.Nat.{zero-add}
use lib.Dec.{ltb}
use lib.ListN.{get_or}
use Rattle.std.specs.Prelude.{if◌then◌else◌}
use Rattle.slots.specs.Ring.{round_of}
use Rattle.slots.specs.Marks.{ends}
use Rattle.slots.proofs.RingLaws.{back_lt}
use Rattle.channel.specs.declared.record.Addresses.{Addresses}
use Rattle.channel.specs.declared.record.Pulse.{Pulse}
use Rattle.channel.specs.declared.record.Timers.{Timers}
use Rattle.channel.specs.declared.record.Channel.{Channel}
use Rattle.channel.specs.Record.{receives, opened, retries_out, unanswered, held_in, with_control, with_pulse, with_timers}
use Rattle.channel.specs.Lone.{fallen}
use Rattle.channel.specs.Pulse.{beaten}
use Rattle.channel.specs.Standing.{oldest_of, Standing}
use Rattle.channel.specs.Asked.{Asked}
use Rattle.channel.proofs.FixedLaws.{asked_again}
use Rattle.channel.proofs.StandingLaws.{counted_is}
use Rattle.sender.specs.Directives as sender
use Rattle.sender.specs.Ticking as sender-ticks
use Rattle.sender.proofs.StepLaws.{tick_open, data_falls, beat_spent}
use Rattle.receiver.specs.Receiving as receiver
use Rattle.ends.proofs.SenderCases.{tick_cases}
use Rattle.ends.proofs.SenderKeeps.{back_none}
use Rattle.ends.proofs.ReceiverKeeps.{tick_stands}
use Rattle.ends.proofs.ReceiverFixed.{tick_fixed}
use Rattle.protocol.specs.Ends.{Phase, rank}
use Rattle.protocol.specs.Receiving.{Receiver, waiting, controlled}
use Rattle.means.specs.Held.{octets_at, units_in, units_held}
use Rattle.means.proofs.Receives.{Receives}
use Rattle.means.proofs.ReceiverControl.{tick_receives}
use Rattle.means.proofs.ReceiverHeld.{receives_held}

-- ---- what is read: the marks and the limits, and of the window where the oldest lies and how many there are

alike : (t : Bool) (u : List ℕ) {x y v w : List (List ℕ)} → x ≡ y → v ≡ w → (if t then u ∷ x else v) ≡ (if t then u ∷ y else w)
alike true u p q = ap (u ∷◌) p
alike false u p q = q

-- the record with its limits and marks, and all else of another
abbrev over : Channel → Channel → Channel
over c k =
    record { addresses = k.addresses; limits = c.limits; phase = k.phase; pulse = k.pulse; window = k.window; timers = k.timers; marks = c.marks; acked = k.acked }

module _ (c k : Channel) (mem lens : List ℕ) where
  units_in_lem : (part : List ℕ) (n from : ℕ) → units_in (over c k) mem lens part n from ≡ units_in c mem lens part n from
  unfolding units_in
  units_in_lem part zero from = refl
  units_in_lem part (suc n) from =
      let next = round_of c.limits.slots (from + 1) in
      let octets = octets_at c mem lens from in
      alike (ends (get_or c.marks from 0)) (part ++ octets) (units_in_lem [] n next) (units_in_lem (part ++ octets) n next)

  -- where the oldest lies at the same place, and there are as many
  same_units : oldest_of c.limits.slots k.window ≡ oldest_of c.limits.slots c.window → held_in k.window ≡ held_in c.window
      → units_held (over c k) mem lens ≡ units_held c mem lens
  same_units place count =
      ap₂ (λ (n from : ℕ). units_in (over c k) mem lens [] n from) count place
      ∙ units_in_lem [] (held_in c.window) (oldest_of c.limits.slots c.window)

module _ (c : Channel) (mem lens : List ℕ) where
  -- the pulse is not read
  pub pulse_units : (p : Pulse) → units_held (with_pulse c p) mem lens ≡ units_held c mem lens
  pulse_units p = same_units c (with_pulse c p) mem lens refl refl

  -- ---- a sender goes inactive: the window is brought back to the oldest segment, and all that is held stays

  module _ (h : Standing c lens) where
    -- whatever the timers then are
    closed_units : (timers : Timers) (why : ℕ) → units_held (sender.shut_for (with_timers c timers) why) mem lens ≡ units_held c mem lens
    unfolding sender.parked
    closed_units timers why =
        let n = counted_is c.limits c.window h.ring h.flight in
        same_units c (sender.shut_for (with_timers c timers) why) mem lens
        (back_none c.limits.slots (oldest_of c.limits.slots c.window) (back_lt c.limits.slots c.window.place c.window.behind n.place))
        (zero-add (held_in c.window))

    pub shut_units : (why : ℕ) → units_held (sender.shut_for c why) mem lens ≡ units_held c mem lens
    shut_units why = closed_units c.timers why

    -- no tick of a sender changes what it holds, be it one that closes the channel
    pub tick_units : units_held (sender-ticks.tick_step c).channel mem lens ≡ units_held c mem lens
    tick_units =
        let down = sender-ticks.data_fallen c in
        tick_cases c (λ (k : Channel). units_held k mem lens ≡ units_held c mem lens)
        (λ e. shut_units retries_out)
        (λ e. shut_units retries_out)
        (λ e. shut_units retries_out)
        (λ e. closed_units down.timers unanswered)
        (λ e. same_units c (with_pulse down (beaten c.limits c.pulse).pulse) mem lens refl refl)
        (λ left. same_units c (with_control c (fallen c.phase.control).lone) mem lens refl refl)
        refl

    -- a close by Heartbeat: in OPEN no segment's retries are used up, and the Heartbeat's are
    pub unanswered_units : c.phase.state ≡ opened → sender-ticks.any_spent c.timers.left c.timers.tries ≡ false
        → (beaten c.limits c.pulse).spent ≡ true
        → (sender-ticks.tick_step c ≡ record { channel = sender.shut_for (sender-ticks.data_fallen c) unanswered; inactive = true })
        × (units_held (sender-ticks.tick_step c).channel mem lens ≡ units_held c mem lens)
    unanswered_units o none spent = (
      tick_open c o ∙ data_falls c none ∙ beat_spent (sender-ticks.data_fallen c) (beaten c.limits c.pulse) spent,
      tick_units,
    )

-- ---- a receiver that means one of the protocol: the units that wait there do not depend on its phase

same_waiting : (b : Bool) (r : Receiver) (p : Phase) → waiting (controlled b r p).0 ≡ waiting r
same_waiting true r p = refl
same_waiting false r p = refl

-- no tick of a receiver changes what waits to be taken, be it one that closes the channel
pub tick_waiting : (c : Channel) (mem lens : List ℕ) (r : Receiver) → Asked c mem lens → c.addresses.direction ≡ receives → Receives c mem lens r
    → units_held (receiver.tick_step c).channel mem lens ≡ units_held c mem lens
tick_waiting c mem lens r asked receiving t =
    let k = (receiver.tick_step c).channel in
    let m = tick_receives c mem lens r asked receiving t in
    let f = tick_fixed c in
    let b = ltb (rank r.phase) (rank m.phase) in
    receives_held k mem lens (controlled b r m.phase).0 (asked_again c k mem lens f (tick_stands c lens receiving asked.standing) asked.sized)
    (ap (λ (a : Addresses). a.direction) f.0 ∙ receiving)
    m.related
    ∙ same_waiting b r m.phase
    ∙ sym (receives_held c mem lens r asked receiving t)
