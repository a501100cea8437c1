-- Of which ranks a packet of a channel is ready, and the hand-out of that of a rank (document 01, Sending: Control, resent Data, new Data; within a
-- channel the lowest segment; document 02, A2: a Heartbeat ranks with Control; A5: so does Flow Control, last in a channel, and new Data asks the
-- number recorded).
use Rattle.std.specs.Prelude.{ℕ, zero, suc, ◌+◌, ◌-◌, ◌%◌, Bool, false, not, ◌&&◌, ◌||◌, List, [], ◌∷◌, Ok, length, take, ◌==◌, nat_eq, nat_lt, slice_index, slice_set, if◌then◌else◌}
use Rattle.slots.specs.Ring.{round_of}
use Rattle.slots.specs.Slots.{segment_in}
use Rattle.channel.specs.Places.{slot_of}
use Rattle.packet.specs.declared.fields.Fields.{Fields}
use Rattle.packet.specs.declared.kinds.Kind.{Kind}
use Rattle.packet.specs.declared.kinds.Kind.TheVariants.{Data, Open, Close, Heartbeat, FlowControl}
use Rattle.packet.specs.Tests.{flags_whole}
use Rattle.packet.specs.Writing.{after_write}
use Rattle.channel.specs.declared.record.Node.{Node}
use Rattle.channel.specs.declared.record.Addresses.{Addresses}
use Rattle.channel.specs.declared.record.Limits.{Limits}
use Rattle.channel.specs.declared.record.Pulse.{Pulse}
use Rattle.channel.specs.declared.record.Window.{Window}
use Rattle.channel.specs.declared.record.Channel.{Channel}
use Rattle.channel.specs.declared.step.Stepped.{Stepped}
use Rattle.channel.specs.declared.answer.Refusal.TheVariants as refusal
use Rattle.channel.specs.Record.{receives, enabled, opened, closing, with_control, with_pulse, with_window, with_timers, with_acked}
use Rattle.channel.specs.Prefixes.{prefix_of}
use Rattle.channel.specs.Steps.{refusing, doing, outgoing_of, outgoing_length}
use Rattle.channel.specs.Lone.{is_ready, handed_out}
use Rattle.channel.specs.Pulse.{after_sending}
use Rattle.channel.specs.Flow.{stated, flow_number, flow_out, last_is, may_follow}
use Rattle.channel.specs.declared.record.Lone.{Lone}
use Rattle.sender.specs.Directives.{place_at}
use Rattle.lines.specs.declared.ranks.Ranks.{Ranks}

-- ---- ready packets, by rank: 0 Control, the Heartbeat or Flow Control, 1 resent Data, 2 new Data

-- of n segments from a place on, how many there are before the first that is not acknowledged and whose timer has ended; n if none is so
unfoldable pub again_in : List ℕ → List ℕ → ℕ → ℕ → ℕ → ℕ
again_in acked left slots zero from = 0
again_in acked left slots (suc n) from =
    if slice_index acked from == 0 && slice_index left from == 0 then 0
    else suc (again_in acked left slots n (round_of slots (from + 1)))

-- the lowest segment that is ready again, counted from the start; as many as are in flight if none is
abbrev pub again_at : Channel → ℕ
again_at c = again_in c.acked c.timers.left c.limits.slots c.window.flight c.window.place

-- the Open in ENABLED, the Close in CLOSING
abbrev pub ready_control : Channel → Bool
ready_control c = (c.phase.state == enabled || c.phase.state == closing) && is_ready c.phase.control

-- the Heartbeat, and of a receiver Flow Control
abbrev pub ready_beside : Channel → Bool
ready_beside c = is_ready c.pulse.beat || (c.addresses.direction == receives && is_ready c.pulse.flow.packet)

-- these in OPEN
abbrev pub ready_open : Channel → Bool
ready_open c = c.phase.state == opened && ready_beside c

-- these or Control: a channel has one of the two
abbrev pub ready_single : Channel → Bool
ready_single c = if c.phase.state == opened then ready_beside c else ready_control c

abbrev pub ready_again : Channel → Bool
ready_again c = c.phase.state == opened && nat_lt (again_at c) c.window.flight

-- there is a segment that was not yet handed out, and only the k numbers from the window start may be sent
abbrev pub next_in_window : Limits → Window → Bool
next_in_window l w = nat_lt w.flight w.ahead && nat_lt w.flight l.window

-- and no number past the one recorded, where Flow Control is used
abbrev pub ready_new : Channel → Bool
ready_new c = c.phase.state == opened && (next_in_window c.limits c.window && may_follow c.limits c.window c.pulse.flow.recorded)

-- a packet of this rank is ready
unfoldable pub ready : ℕ → Channel → Bool
ready rank c =
    if rank == 0 then ready_single c
    else if rank == 1 then ready_again c
    else if rank == 2 then ready_new c
    else false

-- of which ranks a packet is ready (document 02, A4: it waits in the line of each)
abbrev pub ranks_of : Channel → Ranks
ranks_of c = record { control = ready 0 c; again = ready 1 c; fresh = ready 2 c }

-- ---- the hand-out of the packet of a rank

-- in OPEN it is Flow Control where no Heartbeat is ready
abbrev pub is_flow : Channel → Bool
is_flow c = c.phase.state == opened && not (is_ready c.pulse.beat)

-- an Open in ENABLED, a Heartbeat or Flow Control in OPEN, a Close in CLOSING
abbrev pub single_kind : Channel → Kind
single_kind c =
    if is_flow c then FlowControl
    else if c.phase.state == enabled then Open
    else if c.phase.state == opened then Heartbeat
    else Close

-- numbered 0, but for Flow Control
abbrev pub single_number : Channel → ℕ
single_number c = if is_flow c then flow_number c.pulse.flow else 0

abbrev pub single_fields : Node → Channel → Fields
single_fields node c = outgoing_of node c.addresses (single_kind c) flags_whole (single_number c)

-- and with no payload, but for Flow Control: it states the number of now
abbrev pub single_count : Channel → ℕ
single_count c = if is_flow c then 1 else 0

abbrev pub single_payload : Channel → List ℕ
single_payload c = take (single_count c) (stated c.limits c.window ∷ [])

-- the i-th segment from the start on: its flags are its mark less 1, its number counts on from the start
abbrev pub data_fields : Node → Channel → ℕ → Fields
data_fields node c i =
    outgoing_of node c.addresses Data (slice_index c.marks (place_at c i) - 1) ((c.window.start + i) % 256)

-- the timer of the segment at a place starts at the timeout, and so many resends are left to it; and as Data goes out, the interval of the Heartbeat
-- starts anew
abbrev pub timed_at : Channel → ℕ → ℕ → Channel
timed_at c place tries =
    after_sending
    (with_timers c
    (record {
      closing = c.timers.closing;
      left = slice_set c.timers.left place c.limits.timeout;
      tries = slice_set c.timers.tries place tries;
    }))

abbrev pub one_more : Window → Window
one_more w =
    record { start = w.start; place = w.place; behind = w.behind; ahead = w.ahead; flight = w.flight + 1; way = w.way }

-- its timer starts, as that of a packet that is sent alone
abbrev pub lone_sent : Limits → Lone → Lone
lone_sent l x = handed_out x l.timeout l.retries

-- what goes out in OPEN is the last packet sent; Flow Control starts the interval of the Heartbeat anew
abbrev pub beside_out : Limits → ℕ → Pulse → Pulse
beside_out l now p =
    if is_ready p.beat then record { left = p.left; beat = lone_sent l p.beat; flow = last_is 0 p.flow }
    else record { left = l.interval; beat = p.beat; flow = flow_out l now p.flow }

abbrev pub single_out : Channel → Channel
single_out c =
    with_pulse
    (with_control c (if nat_eq c.phase.state opened then c.phase.control else lone_sent c.limits c.phase.control))
    (if nat_eq c.phase.state opened then beside_out c.limits (stated c.limits c.window) c.pulse else c.pulse)

abbrev pub again_out : Channel → Channel
again_out c = timed_at c (place_at c (again_at c)) (slice_index c.timers.tries (place_at c (again_at c)) - 1)

-- handed out for the first time: all resends are left to it, no ack is known of it, and one more is in flight
abbrev pub new_out : Channel → Channel
new_out c =
    with_window
    (with_acked (timed_at c (place_at c c.window.flight) c.limits.retries) (slice_set c.acked (place_at c c.window.flight) 0))
    (one_more c.window)

-- the segment of a rank, counted from the start
abbrev pub segment_for : Channel → ℕ → ℕ
segment_for c rank = if rank == 1 then again_at c else c.window.flight

-- the fields and the payload of the packet of a rank
unfoldable pub next_fields : Node → Channel → ℕ → Fields
next_fields node c rank = if rank == 0 then single_fields node c else data_fields node c (segment_for c rank)

unfoldable pub next_payload : Channel → List ℕ → List ℕ → ℕ → List ℕ
next_payload c lens mem rank =
    if rank == 0 then single_payload c else segment_in c.limits.payload mem lens (slot_of c (place_at c (segment_for c rank)))

-- the channel once it is handed out
unfoldable pub next_out : Channel → ℕ → Channel
next_out c rank = if rank == 0 then single_out c else if rank == 1 then again_out c else new_out c

-- how many octets the packet has: only the lengths of the own prefix and of its payload count
abbrev pub next_length : Channel → List ℕ → ℕ → ℕ
next_length c lens rank = outgoing_length c.addresses (if nat_eq rank 0 then single_count c else slice_index lens (slot_of c (place_at c (segment_for c rank))))

-- a packet with a payload of x octets goes out into a buffer of n, and the channel is then another; 11 if it does not fit, and nothing changes
abbrev pub sent_step : Channel → Channel → ℕ → ℕ → Stepped
sent_step before after x n =
    if nat_lt n (outgoing_length before.addresses x) then refusing before (refusal.Small (outgoing_length before.addresses x))
    else doing after (outgoing_length before.addresses x)

-- the buffer afterwards
abbrev pub sent_out : Addresses → Fields → List ℕ → List ℕ → List ℕ
sent_out a f p out =
    if nat_lt (length out) (outgoing_length a (length p)) then out else after_write (Ok (outgoing_length a (length p))) f (prefix_of a.own) p out

-- the answer for a rank that is ready, with a buffer of n octets: 11 if the packet does not fit, and nothing changes
unfoldable pub hand_step : Channel → List ℕ → ℕ → ℕ → Stepped
hand_step c lens rank n =
    if nat_lt n (next_length c lens rank) then refusing c (refusal.Small (next_length c lens rank))
    else doing (next_out c rank) (next_length c lens rank)

-- the buffer afterwards
unfoldable pub hand_out : Node → Channel → List ℕ → List ℕ → ℕ → List ℕ → List ℕ
hand_out node c lens mem rank out =
    if nat_lt (length out) (next_length c lens rank) then out
    else after_write (Ok (next_length c lens rank)) (next_fields node c rank) (prefix_of c.addresses.own) (next_payload c lens mem rank) out
