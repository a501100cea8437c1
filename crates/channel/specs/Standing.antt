-- The standing condition of a record with its lengths (docs/CONDITION.md): as a test, and as facts.
use Rattle.std.specs.Prelude.{◌≡◌, ℕ, zero, suc, ◌+◌, ◌-◌, ◌<◌, ◌≤◌, Bool, true, false, not, ◌&&◌, ◌||◌, List, length, ◌==◌, nat_eq, nat_le, nat_lt, slice_index, if◌then◌else◌}
use Rattle.slots.specs.Ring.{round_of, back_of, run_of}
use Rattle.slots.specs.Marks.{ends}
use Rattle.channel.specs.Places.{slot_of}
use Rattle.channel.specs.declared.record.Limits.{Limits}
use Rattle.channel.specs.declared.record.Phase.{Phase}
use Rattle.channel.specs.declared.record.Window.{Window}
use Rattle.channel.specs.declared.record.Channel.{Channel}
use Rattle.channel.specs.Record.{sends, closed, opened, lone_none, held_in}
use Rattle.channel.specs.Settings.{fit_limits, fit_addresses}

-- ---- as a test

-- the addresses, state, reason, the two marks 0 or 1, and the states of the control packet, the Heartbeat and Flow Control have a meaning
unfoldable pub named : Channel → Bool
named c =
    fit_addresses c.addresses
    && nat_le c.phase.state 3
    && nat_le c.phase.reason 6
    && nat_le c.phase.kept 1
    && nat_le c.phase.accepted 1
    && nat_le c.phase.control.state 3
    && nat_le c.pulse.beat.state 3
    && nat_le c.pulse.flow.packet.state 3

-- what is held is within the slots
unfoldable pub in_ring : Limits → Window → Bool
in_ring l w = nat_lt w.place l.slots && nat_le w.behind l.slots && nat_le w.ahead (l.slots - w.behind)

-- what was handed out is within what is ahead and the window, and what is on the way within what is behind and the unit
unfoldable pub in_flight : Limits → Window → Bool
in_flight l w =
    nat_le w.flight w.ahead
    && nat_le w.flight l.window
    && nat_le w.way w.behind
    && nat_lt w.way l.segments

-- a receiver has nothing ahead; a sender has nothing on the way, and out of OPEN nothing behind the start or in flight
unfoldable pub sided : ℕ → ℕ → Window → Bool
sided direction state w =
    if direction == sends
    then (w.way == 0) && (if nat_eq state opened then true else (w.behind == 0) && w.flight == 0)
    else (w.ahead == 0)

-- of a sender out of OPEN: it is CLOSED, or has its Open or Close
unfoldable pub asking : ℕ → Phase → Bool
asking direction p = not (direction == sends) || p.state == closed || not (p.control.state == lone_none)

-- out of OPEN the window starts at 1, no unit is half taken in, and a sender that is not CLOSED asks to open or to close
unfoldable pub rested : ℕ → Phase → Window → Bool
rested direction p w =
    if p.state == opened then true else (w.start == 1) && w.way == 0 && asking direction p

-- the place of the oldest segment held
abbrev pub oldest_of : ℕ → Window → ℕ
oldest_of slots w = back_of slots w.place w.behind

-- each segment held lies in a slot that is marked
unfoldable pub marked : ℕ → Window → List ℕ → Bool
marked slots w marks = run_of marks slots (held_in w) (oldest_of slots w) == held_in w

-- a slot not in use fits; a segment has at most P octets, and of a sender exactly P if it does not end its unit
unfoldable pub slot_fit : Bool → ℕ → ℕ → ℕ → Bool
slot_fit sending most mark len =
    if mark == 0 then true
    else if nat_lt 4 mark then false
    else if sending then (if ends mark then nat_le len most else (len == most))
    else nat_le len most

-- the slots of n places from the i-th on fit: the mark lies by place, the length by the slot that the map gives for it
unfoldable pub slots_fit : (ℕ → ℕ) → Bool → ℕ → List ℕ → List ℕ → ℕ → ℕ → Bool
slots_fit slot sending most marks lens zero i = true
slots_fit slot sending most marks lens (suc n) i =
    slot_fit sending most (slice_index marks i) (slice_index lens (slot i)) && slots_fit slot sending most marks lens n (i + 1)

unfoldable pub standing : Channel → List ℕ → Bool
standing c lens =
    fit_limits c.limits
    && length lens == c.limits.slots
    && named c
    && in_ring c.limits c.window
    && in_flight c.limits c.window
    && sided c.addresses.direction c.phase.state c.window
    && rested c.addresses.direction c.phase c.window
    && marked c.limits.slots c.window c.marks
    && slots_fit (slot_of c) (c.addresses.direction == sends) c.limits.payload c.marks lens c.limits.slots 0

-- ---- as facts: each segment held lies in a marked slot, and each slot fits

pub record Standing (c : Channel) (lens : List ℕ) : Type 0 where
  pub fit : fit_limits c.limits ≡ true
  pub count : length lens ≡ c.limits.slots
  pub named : named c ≡ true
  pub ring : in_ring c.limits c.window ≡ true
  pub flight : in_flight c.limits c.window ≡ true
  pub sided : sided c.addresses.direction c.phase.state c.window ≡ true
  pub rested : rested c.addresses.direction c.phase c.window ≡ true
  pub held : (i : ℕ)
      → i < held_in c.window
      → slice_index c.marks (round_of c.limits.slots (oldest_of c.limits.slots c.window + i)) ≡ 0
      → ⊥
  pub slots : (i : ℕ)
      → i < c.limits.slots
      → slot_fit (c.addresses.direction == sends) c.limits.payload (slice_index c.marks i) (slice_index lens (slot_of c i)) ≡ true

-- the numbers of a record that stands
pub record Counted (l : Limits) (w : Window) : Type 0 where
  pub place : w.place < l.slots
  pub held : held_in w ≤ l.slots
  pub flight : w.flight ≤ w.ahead
  pub window : w.flight ≤ l.window
  pub way : w.way ≤ w.behind
  pub unit : w.way < l.segments
