-- The Heartbeat of an end, the same at both (document 02, A2; 000, 4.4.4.7 and 4.5.3.6): the interval, what starts it anew, the Heartbeat that is made
-- when it ends, and what arrives. What moves it leaves Flow Control as it is.
use Rattle.std.specs.Prelude.{ℕ, ◌-◌, not, ◌==◌, nat_le, if◌then◌else◌}
use Rattle.channel.specs.declared.record.Limits.{Limits}
use Rattle.channel.specs.declared.record.Lone.{Lone}
use Rattle.channel.specs.declared.record.Pulse.{Pulse}
use Rattle.channel.specs.declared.record.Channel.{Channel}
use Rattle.channel.specs.declared.lone.Fallen.{Fallen}
use Rattle.channel.specs.declared.pulse.Beaten.{Beaten}
use Rattle.channel.specs.declared.answer.Refusal.TheVariants as refusal
use Rattle.channel.specs.declared.step.Stepped.{Stepped}
use Rattle.channel.specs.Record.{opened, lone_none, no_lone, no_flow, with_pulse}
use Rattle.channel.specs.Lone.{ready_lone, is_out, fallen}
use Rattle.channel.specs.Steps.{refusing, doing, outgoing_length}

-- ---- the interval

-- 'Upon transitioning into the OPEN state, the Transmit TEP shall start the Transmit Heartbeat timer'
abbrev pub started_pulse : Limits → Pulse
started_pulse l = record { left = l.interval; beat = no_lone; flow = no_flow }

-- 'Whenever the Transmit TEP transmits a Packet (a Control, Data, or Ack Packet)': the interval starts anew, and a Heartbeat that was made stays
abbrev pub restarted : Limits → Pulse → Pulse
restarted l p = record { left = l.interval; beat = p.beat; flow = p.flow }

-- in a state, once the channel has sent Data or an Ack; out of OPEN there is no interval
abbrev pub sent_in : ℕ → Limits → Pulse → Pulse
sent_in state l p = if state == opened then restarted l p else p

abbrev pub after_sending : Channel → Channel
after_sending c = with_pulse c (sent_in c.phase.state c.limits c.pulse)

abbrev pub with_beat : Pulse → Lone → Pulse
with_beat p l = record { left = p.left; beat = l; flow = p.flow }

-- ---- a tick

-- a Heartbeat becomes ready, unless one is ready or unanswered: all are numbered 0, and two could not be told apart
abbrev pub next_beat : Lone → Lone
next_beat l = if l.state == lone_none then ready_lone else l

-- the interval falls by one; 0 is one that does not run. As it ends, a Heartbeat is made, and it starts anew
unfoldable pub paced : Limits → Pulse → Pulse
paced l p =
    if nat_le 2 p.left then record { left = p.left - 1; beat = p.beat; flow = p.flow }
    else if p.left == 0 then p
    else record { left = l.interval; beat = next_beat p.beat; flow = p.flow }

-- the Heartbeat's timer, then the interval: so one that is made in a tick is not ticked in it
abbrev pub beaten_by : Limits → Pulse → Fallen → Beaten
beaten_by l p f = record { pulse = paced l (with_beat p f.lone); spent = f.spent }

abbrev pub beaten : Limits → Pulse → Beaten
beaten l p = beaten_by l p (fallen p.beat)

-- ---- arrivals, at either end

-- a Heartbeat is answered in OPEN, whatever its number; its Ack has that number
unfoldable pub heartbeat_step : Channel → Stepped
heartbeat_step c =
    if c.phase.state == opened then doing c (outgoing_length c.addresses 0)
    else refusing c refusal.State

-- the Ack of this end's own: numbered 0 and after it was handed out, else ignored
unfoldable pub heartbeat_ack_step : Channel → ℕ → Stepped
heartbeat_ack_step c number =
    if not (c.phase.state == opened) then refusing c refusal.State
    else if not (number == 0) then refusing c refusal.Ignored
    else if not (is_out c.pulse.beat) then refusing c refusal.Ignored
    else doing (with_pulse c (with_beat c.pulse no_lone)) 0
