-- A channel's record: what its numbers mean, what settings make, and how one part of it is changed.
use Rattle.std.specs.Prelude.{ℕ, ◌+◌, List, replicate}
use Rattle.channel.specs.declared.record.Addresses.{Addresses}
use Rattle.channel.specs.declared.record.Limits.{Limits}
use Rattle.channel.specs.declared.record.Settings.{Settings}
use Rattle.channel.specs.declared.record.Channel.{Channel}
use Rattle.channel.specs.declared.record.Lone.{Lone}
use Rattle.channel.specs.declared.record.Phase.{Phase}
use Rattle.channel.specs.declared.record.Flow.{Flow}
use Rattle.channel.specs.declared.record.Pulse.{Pulse}
use Rattle.channel.specs.declared.record.Window.{Window}
use Rattle.channel.specs.declared.record.Timers.{Timers}

-- ---- directions

abbrev pub sends : ℕ
sends = 0

abbrev pub receives : ℕ
receives = 1

-- ---- states (000, 4.4.3 and 4.5.2)

abbrev pub closed : ℕ
closed = 0

abbrev pub enabled : ℕ
enabled = 1

abbrev pub opened : ℕ
opened = 2

abbrev pub closing : ℕ
closing = 3

-- ---- why a channel went inactive (document 01, Receiving)

abbrev pub no_reason : ℕ
no_reason = 0

abbrev pub retries_out : ℕ
retries_out = 1

abbrev pub late_open : ℕ
late_open = 2

abbrev pub control_number : ℕ
control_number = 3

abbrev pub data_number : ℕ
data_number = 4

abbrev pub broken_flags : ℕ
broken_flags = 5

-- a Heartbeat got no answer (document 02, A2)
abbrev pub unanswered : ℕ
unanswered = 6

-- ---- a packet sent alone

abbrev pub lone_none : ℕ
lone_none = 0

abbrev pub lone_ready : ℕ
lone_ready = 1

abbrev pub lone_out : ℕ
lone_out = 2

abbrev pub lone_again : ℕ
lone_again = 3

-- ---- fresh parts, and what settings make: CLOSED and empty (document 01, A channel's record and memory)

abbrev pub no_lone : Lone
no_lone = record { state = lone_none; timer = 0; tries = 0 }

abbrev pub no_flow : Flow
no_flow = record { packet = no_lone; number = 0; stated = 0; last = 0; recorded = 0 }

abbrev pub no_pulse : Pulse
no_pulse = record { left = 0; beat = no_lone; flow = no_flow }

abbrev pub fresh_window : Window
fresh_window = record { start = 1; place = 0; behind = 0; ahead = 0; flight = 0; way = 0 }

abbrev pub no_timers : Timers
no_timers = record { closing = 0; left = replicate 128 0; tries = replicate 128 0 }

abbrev pub no_marks : List ℕ
no_marks = replicate 128 0

abbrev pub fresh_phase : ℕ → Lone → Phase
fresh_phase state control = record { state = state; reason = no_reason; kept = 0; accepted = 0; control = control }

abbrev pub fresh_of : Addresses → Limits → ℕ → Lone → Channel
fresh_of addresses limits state control =
    record { addresses = addresses; limits = limits; phase = fresh_phase state control; pulse = no_pulse; window = fresh_window; timers = no_timers; marks = no_marks; acked = no_marks }

abbrev pub made_of : Settings → Channel
made_of s = fresh_of s.addresses s.limits closed no_lone

-- how many segments are held: before the start, and from it on
abbrev pub held_in : Window → ℕ
held_in w = w.behind + w.ahead

-- ---- the record with one part changed

abbrev pub with_phase : Channel → Phase → Channel
with_phase c x = record { addresses = c.addresses; limits = c.limits; phase = x; pulse = c.pulse; window = c.window; timers = c.timers; marks = c.marks; acked = c.acked }

abbrev pub with_pulse : Channel → Pulse → Channel
with_pulse c x = record { addresses = c.addresses; limits = c.limits; phase = c.phase; pulse = x; window = c.window; timers = c.timers; marks = c.marks; acked = c.acked }

abbrev pub with_window : Channel → Window → Channel
with_window c x = record { addresses = c.addresses; limits = c.limits; phase = c.phase; pulse = c.pulse; window = x; timers = c.timers; marks = c.marks; acked = c.acked }

abbrev pub with_timers : Channel → Timers → Channel
with_timers c x = record { addresses = c.addresses; limits = c.limits; phase = c.phase; pulse = c.pulse; window = c.window; timers = x; marks = c.marks; acked = c.acked }

abbrev pub with_marks : Channel → List ℕ → Channel
with_marks c x = record { addresses = c.addresses; limits = c.limits; phase = c.phase; pulse = c.pulse; window = c.window; timers = c.timers; marks = x; acked = c.acked }

abbrev pub with_acked : Channel → List ℕ → Channel
with_acked c x = record { addresses = c.addresses; limits = c.limits; phase = c.phase; pulse = c.pulse; window = c.window; timers = c.timers; marks = c.marks; acked = x }

-- ---- the record with one number of its phase changed

abbrev pub with_state : Channel → ℕ → Channel
with_state c x = with_phase c (record { state = x; reason = c.phase.reason; kept = c.phase.kept; accepted = c.phase.accepted; control = c.phase.control })

abbrev pub with_reason : Channel → ℕ → Channel
with_reason c x = with_phase c (record { state = c.phase.state; reason = x; kept = c.phase.kept; accepted = c.phase.accepted; control = c.phase.control })

abbrev pub with_kept : Channel → ℕ → Channel
with_kept c x = with_phase c (record { state = c.phase.state; reason = c.phase.reason; kept = x; accepted = c.phase.accepted; control = c.phase.control })

abbrev pub with_accepted : Channel → ℕ → Channel
with_accepted c x = with_phase c (record { state = c.phase.state; reason = c.phase.reason; kept = c.phase.kept; accepted = x; control = c.phase.control })

abbrev pub with_control : Channel → Lone → Channel
with_control c x = with_phase c (record { state = c.phase.state; reason = c.phase.reason; kept = c.phase.kept; accepted = c.phase.accepted; control = x })
