-- What an arrival does to the channel that it is for (document 01, Answer numbers: 'Arrivals test 11, 1, 2, 4, 3, 14, Data payload over P (3),
-- state (5), number (9, 15, 16), room (8), flags (9)'). Which channel that is, is said in specs/Finding.antt.
use Rattle.std.specs.Prelude.{◌≡◌, ℕ, ◌≤◌, ◌<◌, true, false, List, ltb, eqb, length, get_or, if◌then◌else◌}
use Rattle.packet.specs.declared.fields.Fields.{Fields}
use Rattle.packet.specs.declared.kinds.Kind.{Kind}
use Rattle.packet.specs.declared.kinds.Kind.TheVariants.{Data, DataAck, Open, Close, Heartbeat, HeartbeatAck, FlowControl, ControlAck, Lacking}
use Rattle.packet.specs.Kinds.{kind_of}
use Rattle.packet.specs.Layout.{least, payload_at, whole_length, fields_at, prefix_at, length_at, payload_in}
use Rattle.walks.specs.Serving.{Worked, works}
use Rattle.channel.specs.declared.record.Node.{Node}
use Rattle.channel.specs.declared.record.Channel.{Channel}
use Rattle.channel.specs.declared.answer.Refusal.TheVariants as refusal
use Rattle.channel.specs.Record.{receives}
use Rattle.channel.specs.Steps.{refusing}
use Rattle.channel.specs.declared.step.Stepped.{Stepped}
use Rattle.sender_acks.specs.Stated.{control_ack_stated, data_ack_stated}
use Rattle.channel.specs.Pulse.{heartbeat_step, heartbeat_ack_step}
use Rattle.channel.specs.Flow.{flow_step, flow_ack_step}
use Rattle.receiver.specs.declared.acks.Acked.TheVariants as acked
use Rattle.receiver.specs.Receiving.{control_step}
use Rattle.table.specs.Looking.{same}
use Rattle.table.specs.Serving.{Step}
use Rattle.arrivals.specs.Finding.{prefix_read}
use Rattle.arrivals.specs.Replying.{replying}
use Rattle.arrivals.specs.Data.{reply_length, unfit, data_for}

-- the number that an Ack or Flow Control states; 0 where it states none
abbrev pub stated_in : List ℕ → ℕ
stated_in payload = get_or payload 0 0

-- type 6: 'that is sent from the Receive TEP to the Transmit TEP .. is interpreted as a Flow Control Packet', the other way as its Ack (000, note to
-- Table 4-2). The lookup has seen to it that the one carries an octet and the other none
abbrev pub six_for : Node → ℕ → ℕ → Channel → List ℕ → List ℕ → List ℕ → Worked Stepped
six_for node number stated c mem lens out =
    if eqb c.addresses.direction receives then works (flow_ack_step c number) mem lens out
    else replying node c acked.Flow number (flow_step c stated) mem lens out

-- by the packet's kind; no packet of a kind that is not carried is read
abbrev pub arrive_as : Kind → Node → Fields → List ℕ → Step
arrive_as Data node f payload c rank mem lens out = data_for node f payload c rank mem lens out
arrive_as DataAck node f payload c rank mem lens out = works (data_ack_stated c f.number (stated_in payload)) mem lens out
arrive_as Open node f payload c rank mem lens out = replying node c acked.Open f.number (control_step c true f.number) mem lens out
arrive_as Close node f payload c rank mem lens out = replying node c acked.Close f.number (control_step c false f.number) mem lens out
arrive_as Heartbeat node f payload c rank mem lens out = replying node c acked.Heartbeat f.number (heartbeat_step c) mem lens out
arrive_as HeartbeatAck node f payload c rank mem lens out = works (heartbeat_ack_step c f.number) mem lens out
arrive_as FlowControl node f payload c rank mem lens out = six_for node f.number (stated_in payload) c mem lens out
arrive_as ControlAck node f payload c rank mem lens out = works (control_ack_stated c f.number (stated_in payload)) mem lens out
arrive_as (Lacking code) node f payload c rank mem lens out = works (refusing c refusal.Lacking) mem lens out

-- with what only the channel tells tested first: room for its reply (11), and what it cannot take (3)
unfoldable pub arrive_by : Node → Fields → ℕ → List ℕ → Step
arrive_by node f x payload c rank mem lens out =
    if ltb (length out) (reply_length c (kind_of f.kind) x) then works (refusing c (refusal.Small (reply_length c (kind_of f.kind) x))) mem lens out
    else if unfit c f x then works (refusing c refusal.Strange) mem lens out
    else arrive_as (kind_of f.kind) node f payload c rank mem lens out

unfoldable pub arrival_for : Node → List ℕ → Step
arrival_for node s = arrive_by node (fields_at s) (length_at s) (payload_in s)

-- the reply fits
abbrev pub Replies : Channel → Kind → ℕ → List ℕ → Type 0
Replies c kind x out = reply_length c kind x ≤ length out

-- what the reader, the lookup and the reply buffer have shown, as the step asks it
pub record Framed (c : Channel) (f : Fields) (from x : ℕ) (s out : List ℕ) : Type 0 where
  pub ours : same c.addresses f x (prefix_read s) ≡ true
  pub fields : f ≡ fields_at s
  pub start : from ≡ payload_at (prefix_at s)
  pub count : x ≡ length_at s
  pub whole : whole_length (prefix_at s) x ≡ length s
  pub flags : f.flags < 4
  pub room : least ≤ length out

-- and of its payload p, as it lies in some packet
pub record Carried (c : Channel) (f : Fields) (p out : List ℕ) : Type 0 where
  pub packet : List ℕ
  pub from : ℕ
  pub framed : Framed c f from (length p) packet out
