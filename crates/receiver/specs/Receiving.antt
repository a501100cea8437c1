-- A receive end, step by step (document 01, Receiving; 000, 4.5.2 and 4.5.3.4; its Heartbeat: document 02, A2; Flow Control: A5).
use Rattle.std.specs.Prelude.{ℕ, ◌-◌, Bool, true, false, not, List, [], ◌∷◌, take, leb, eqb, if◌then◌else◌}
use Rattle.slots.specs.Ring.{back_of, cleared}
use Rattle.packet.specs.declared.kinds.Kind.{Kind}
use Rattle.packet.specs.declared.kinds.Kind.TheVariants.{DataAck, ControlAck, HeartbeatAck, FlowControl}
use Rattle.channel.specs.declared.record.Limits.{Limits}
use Rattle.channel.specs.declared.record.Window.{Window}
use Rattle.channel.specs.declared.record.Timers.{Timers}
use Rattle.channel.specs.declared.record.Channel.{Channel}
use Rattle.channel.specs.declared.step.Stepped.{Stepped}
use Rattle.channel.specs.declared.step.Ticked.{Ticked}
use Rattle.channel.specs.declared.lone.Fallen.{Fallen}
use Rattle.channel.specs.declared.pulse.Beaten.{Beaten}
use Rattle.channel.specs.declared.answer.Refusal.TheVariants as refusal
use Rattle.channel.specs.Record.{closed, enabled, opened, closing, late_open, control_number, retries_out, unanswered, no_lone, no_pulse, held_in, with_state, with_reason, with_pulse, with_window, with_timers, with_marks}
use Rattle.channel.specs.Steps.{refusing, doing, repeating, failing, enabled_of, outgoing_length}
use Rattle.channel.specs.Lone.{fallen}
use Rattle.channel.specs.Pulse.{started_pulse, beaten}
use Rattle.channel.specs.Flow.{flows, stated, lowered_flow}
use Rattle.receiver.specs.declared.acks.Acked.{Acked}
use Rattle.receiver.specs.declared.acks.Acked.TheVariants as acked

-- ---- Acks

-- the kind of the Ack of a Data packet, a Control packet, a Heartbeat, or Flow Control
abbrev pub ack_kind : Acked → Kind
ack_kind acked.Data = DataAck
ack_kind acked.Open = ControlAck
ack_kind acked.Close = ControlAck
ack_kind acked.Heartbeat = HeartbeatAck
ack_kind acked.Flow = FlowControl

-- where Flow Control is used, an Ack of Data or Control carries one octet (000, 4.2.4.4)
abbrev pub stated_count : Limits → ℕ
stated_count l = if flows l then 1 else 0

abbrev pub carries : Acked → Limits → ℕ
carries acked.Data l = stated_count l
carries acked.Open l = stated_count l
carries acked.Close l = stated_count l
carries acked.Heartbeat l = 0
carries acked.Flow l = 0

-- which: the number stated, by the window then; that of a Close, which means nothing, is the first one ('may carry the default value')
abbrev pub stated_by : Acked → Limits → Window → ℕ
stated_by acked.Data l w = stated l w
stated_by acked.Open l w = stated l w
stated_by acked.Close l w = l.window
stated_by acked.Heartbeat l w = 0
stated_by acked.Flow l w = 0

abbrev pub carrying : Acked → Limits → Window → List ℕ
carrying of l w = take (carries of l) (stated_by of l w ∷ [])

-- the octets of the Ack of Data or Control to a channel's other end
abbrev pub ack_length : Channel → ℕ
ack_length c = outgoing_length c.addresses (stated_count c.limits)

-- ---- leaving OPEN: complete units stay to be taken, unfinished ones and segments past the start are dropped (house), and so are the Heartbeat and Flow
-- Control

abbrev pub left_window : Limits → Window → Window
left_window l w =
    record {
      start = 1;
      place = back_of l.slots w.place w.way;
      behind = w.behind - w.way;
      ahead = w.ahead;
      flight = w.flight;
      way = 0;
    }

abbrev pub left_marks : Limits → Window → List ℕ → List ℕ
left_marks l w marks = cleared marks l.slots (l.slots - (w.behind - w.way)) (back_of l.slots w.place w.way)

abbrev pub with_closing : Timers → ℕ → Timers
with_closing t ticks = record { closing = ticks; left = t.left; tries = t.tries }

-- out of OPEN into another state, with the close timer at so many ticks
unfoldable pub leaving : Channel → ℕ → ℕ → Channel
leaving c state ticks =
    with_state
    (with_timers (with_marks (with_window (with_pulse c no_pulse) (left_window c.limits c.window)) (left_marks c.limits c.window c.marks)) (with_closing c.timers ticks))
    state

-- inactive: state CLOSED, and the record says why
abbrev pub shut_for : Channel → ℕ → Channel
shut_for c why = with_reason (leaving c closed 0) why

-- ---- directives

-- an Open directive in CLOSED leads to ENABLED, with nothing untaken (10); any other directive gives 5
unfoldable pub open_step : Channel → Stepped
open_step c =
    if not (eqb c.phase.state closed) then refusing c refusal.State
    else if not (eqb (held_in c.window) 0) then refusing c refusal.Untaken
    else doing (enabled_of c no_lone) 0

abbrev pub close_step : Channel → Stepped
close_step c = refusing c refusal.State

-- ---- Control packets

-- in ENABLED it leads to OPEN, where the interval of the Heartbeat starts; in OPEN it is acknowledged while no Data was accepted, and makes the channel inactive after that
unfoldable pub open_arrives : Channel → Stepped
open_arrives c =
    if eqb c.phase.state enabled then doing (with_pulse (with_state c opened) (started_pulse c.limits)) (ack_length c)
    else if not (eqb c.phase.state opened) then refusing c refusal.State
    else if eqb c.phase.accepted 0 then repeating c (ack_length c)
    else failing (shut_for c late_open) late_open

-- in OPEN it leads to CLOSING, and the close timer starts; there further ones are acknowledged
unfoldable pub close_arrives : Channel → Stepped
close_arrives c =
    if eqb c.phase.state opened then doing (leaving c closing c.limits.closing) (ack_length c)
    else if eqb c.phase.state closing then repeating c (ack_length c)
    else refusing c refusal.State

-- a number other than 0 makes the channel inactive but in CLOSED (000, 4.5.3.4 (2) d)
unfoldable pub control_step : Channel → Bool → ℕ → Stepped
control_step c opens number =
    if eqb c.phase.state closed then refusing c refusal.State
    else if not (eqb number 0) then failing (shut_for c control_number) control_number
    else if opens then open_arrives c
    else close_arrives c

-- ---- a tick

-- the close timer falls, and its end leads from CLOSING to CLOSED
abbrev pub close_tick : Channel → Channel
close_tick c =
    if leb 2 c.timers.closing then with_timers c (with_closing c.timers (c.timers.closing - 1))
    else with_state (with_timers c (with_closing c.timers 0)) closed

-- the Heartbeat's timer and the interval; that it got no answer makes the channel inactive
abbrev pub beat_tick : Channel → Beaten → Ticked
beat_tick c b =
    if b.spent then record { channel = shut_for c unanswered; inactive = true }
    else record { channel = with_pulse c b.pulse; inactive = false }

-- Flow Control's timer, then the Heartbeat, unless its retries are used up
abbrev pub flow_tick : Channel → Fallen → Ticked
flow_tick c f =
    if f.spent then record { channel = shut_for c retries_out; inactive = true }
    else beat_tick (with_pulse c (lowered_flow c.pulse f.lone)) (beaten c.limits (lowered_flow c.pulse f.lone))

unfoldable pub tick_step : Channel → Ticked
tick_step c =
    if eqb c.phase.state opened then flow_tick c (fallen c.pulse.flow.packet)
    else if eqb c.phase.state closing then record { channel = close_tick c; inactive = false }
    else record { channel = c; inactive = false }
