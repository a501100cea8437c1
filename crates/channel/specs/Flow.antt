-- Flow Control of a channel (document 02, A5; 000, 4.2.4.4, 4.4.4.6 and 4.5.3.5): the number that a receiver states, the packet that tells it, and the
-- number that a sender has recorded and obeys.
use Rattle.std.specs.Prelude.{ℕ, ◌+◌, ◌-◌, ◌%◌, Bool, true, not, ◌&&◌, ◌||◌, ◌==◌, nat_eq, nat_le, nat_lt, if◌then◌else◌}
use Rattle.channel.specs.declared.record.Limits.{Limits}
use Rattle.channel.specs.declared.record.Lone.{Lone}
use Rattle.channel.specs.declared.record.Flow.{Flow}
use Rattle.channel.specs.declared.record.Pulse.{Pulse}
use Rattle.channel.specs.declared.record.Window.{Window}
use Rattle.channel.specs.declared.record.Channel.{Channel}
use Rattle.channel.specs.declared.answer.Refusal.TheVariants as refusal
use Rattle.channel.specs.declared.step.Stepped.{Stepped}
use Rattle.channel.specs.Record.{opened, lone_none, lone_again, no_lone, with_pulse}
use Rattle.channel.specs.Lone.{ready_lone, is_out, handed_out}
use Rattle.channel.specs.Steps.{refusing, doing, outgoing_length}

-- it is used on this channel
abbrev pub flows : Limits → Bool
flows l = not (l.flow == 0)

-- how far a number lies past another, round 256
abbrev pub past : ℕ → ℕ → ℕ
past number other = (number + 256 - other) % 256

-- ---- the number that a receiver states ('the maximum value of the Sequence Number that the Receive TEP can accept')

-- how many numbers from the start on it accepts: those of the window for which there is a slot
abbrev pub acceptable : Limits → Window → ℕ
acceptable l w = if nat_le l.window (l.slots - w.behind) then l.window else l.slots - w.behind

-- the highest of them; with every slot kept it is the start less 1, that is none
abbrev pub stated : Limits → Window → ℕ
stated l w = past ((w.start + acceptable l w) % 256) 1

-- ---- the packet that states it, at a receiver

abbrev pub with_flow : Pulse → Flow → Pulse
with_flow p f = record { left = p.left; beat = p.beat; flow = f }

-- it becomes ready, or there is none; its number and what it states come as it is handed out
abbrev pub flow_with : Lone → Flow → Flow
flow_with packet f = record { packet = packet; number = 0; stated = 0; last = f.last; recorded = f.recorded }

-- 'When the value of the MASN has changed .. shall generate a Flow Control Packet', and 'no other Flow Control Packets until it receives the Ack'
abbrev pub told_by : ℕ → ℕ → Flow → Flow
told_by before after f = if f.packet.state == lone_none && not (before == after) then flow_with ready_lone f else f

-- a take in OPEN, where Flow Control is used, by the windows before and after it. Data that arrives makes none: its Ack states the number
abbrev pub telling_in : ℕ → Limits → Window → Window → Pulse → Pulse
telling_in state l before after p =
    if state == opened && flows l then with_flow p (told_by (stated l before) (stated l after) p.flow) else p

abbrev pub telling : Window → Channel → Channel
telling before c = with_pulse c (telling_in c.phase.state c.limits before c.window c.pulse)

-- its timer has fallen
abbrev pub with_packet : Flow → Lone → Flow
with_packet f packet = record { packet = packet; number = f.number; stated = f.stated; last = f.last; recorded = f.recorded }

abbrev pub lowered_flow : Pulse → Lone → Pulse
lowered_flow p packet = with_flow p (with_packet p.flow packet)

-- its number is 'the same as that of the last Packet transmitted'; a resend keeps its own
abbrev pub flow_number : Flow → ℕ
flow_number f = if f.packet.state == lone_again then f.number else f.last

-- what it stated when it was first handed out is kept: a resend may get lost that states more, while the Ack of an earlier one comes
abbrev pub first_stated : ℕ → Flow → ℕ
first_stated now f = if f.packet.state == lone_again then f.stated else now

-- handed out, with the number stated now
abbrev pub flow_out : Limits → ℕ → Flow → Flow
flow_out l now f =
    record {
      packet = handed_out f.packet l.timeout l.retries;
      number = flow_number f;
      stated = first_stated now f;
      last = flow_number f;
      recorded = f.recorded;
    }

-- a packet with a number was sent
abbrev pub last_is : ℕ → Flow → Flow
last_is number f = record { packet = f.packet; number = f.number; stated = f.stated; last = number; recorded = f.recorded }

-- an Ack with a number was written: in OPEN it is the last packet, and the interval of the Heartbeat starts anew
abbrev pub replied_in : ℕ → Limits → ℕ → Pulse → Pulse
replied_in state l number p = if state == opened then record { left = l.interval; beat = p.beat; flow = last_is number p.flow } else p

-- its Ack came: another is ready if the number stated now is not the one that it stated first
abbrev pub answered_by : ℕ → Flow → Flow
answered_by now f = flow_with (if nat_eq now f.stated then no_lone else ready_lone) f

unfoldable pub flow_ack_step : Channel → ℕ → Stepped
flow_ack_step c number =
    if not (c.phase.state == opened) then refusing c refusal.State
    else if not (number == c.pulse.flow.number) then refusing c refusal.Ignored
    else if not (is_out c.pulse.flow.packet) then refusing c refusal.Ignored
    else doing (with_pulse c (with_flow c.pulse (answered_by (stated c.limits c.window) c.pulse.flow))) 0

-- ---- the number that a sender has recorded

-- the highest number sent
abbrev pub highest : Window → ℕ
highest w = past ((w.start + w.flight) % 256) 1

-- a number stated is recorded if it lies at most k past the highest sent, and not below the one recorded, unless that lies outside
abbrev pub recorded_by : Limits → Window → ℕ → ℕ → ℕ
recorded_by l w old number =
    if nat_le (past number (highest w)) l.window
    && (nat_lt l.window (past old (highest w)) || nat_le (past old (highest w)) (past number (highest w))) then number
    else old

abbrev pub with_recorded : Flow → ℕ → Flow
with_recorded f number = record { packet = f.packet; number = f.number; stated = f.stated; last = f.last; recorded = number }

-- what an Ack of Data, or Flow Control, states
abbrev pub recording : Limits → Window → ℕ → Pulse → Pulse
recording l w number p =
    if flows l then with_flow p (with_recorded p.flow (recorded_by l w p.flow.recorded number)) else p

-- the Ack of the Open: the first number
abbrev pub recorded_first : ℕ → Pulse → Pulse
recorded_first number p = with_flow p (with_recorded p.flow number)

-- the next new number, as many past the start as are out, is at most the one recorded; 128 and more past the start is behind it
abbrev pub may_follow : Limits → Window → ℕ → Bool
may_follow l w recorded =
    if flows l then nat_lt (past recorded w.start) 128 && nat_le w.flight (past recorded w.start) else true

-- Flow Control arrives: it is answered in OPEN, whatever its number
unfoldable pub flow_step : Channel → ℕ → Stepped
flow_step c number =
    if c.phase.state == opened then doing (with_pulse c (recording c.limits c.window number c.pulse)) (outgoing_length c.addresses 0)
    else refusing c refusal.State
