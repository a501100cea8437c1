-- A link that keeps order: what arrives at an end is, in order, some of what the other end wrote for it (document 02, A5).
use Rattle.std.specs.Prelude.{◌≡◌, Bool, true, false, not, ◌&&◌, List, [], ◌∷◌, ◌++◌, ℕ}
use Rattle.packet.specs.declared.kinds.Kind as packets
use Rattle.packet.specs.declared.kinds.Kind.TheVariants as kinds
use Rattle.packet.specs.Kinds.{kind_of}
use Rattle.packet.specs.Layout.{fields_at}
use Rattle.delivery.specs.Calls.{End, opens, hands, arrives, Kind}
use Rattle.delivery.specs.History.{host, subscriber, Call, Event, is, granted, written, names, binds, IsData, IsDataAck, Toward, segment_of, openings}
use Rattle.delivery.specs.Delivery.{Run, event_of, step}

-- ---- which packets are kept in order. Heartbeats and their Acks may come as they like at both ends, forged ones too, and so may the Acks of Flow Control

abbrev pub is_beat : packets.Kind → Bool
is_beat kinds.Data = false
is_beat kinds.DataAck = false
is_beat kinds.Open = false
is_beat kinds.Close = false
is_beat kinds.Heartbeat = true
is_beat kinds.HeartbeatAck = true
is_beat kinds.FlowControl = false
is_beat kinds.ControlAck = false
is_beat (kinds.Lacking code) = false

-- what comes to the host for the channel: Acks of Data and of Control, and Flow Control
abbrev pub steers : End → List ℕ → Bool
steers h packet = names h packet && not (is_beat (kind_of (fields_at packet).kind))

abbrev pub is_flow : packets.Kind → Bool
is_flow kinds.Data = false
is_flow kinds.DataAck = false
is_flow kinds.Open = false
is_flow kinds.Close = false
is_flow kinds.Heartbeat = false
is_flow kinds.HeartbeatAck = false
is_flow kinds.FlowControl = true
is_flow kinds.ControlAck = false
is_flow (kinds.Lacking code) = false

-- ---- who wrote a packet

-- the host handed it out, toward the subscriber, and if it is Data, for the segment i
abbrev pub Sent : End → ℕ → List ℕ → Event → Type 0
Sent h i packet e =
    (is host hands e.call ≡ true) × (written e ≡ packet) × Toward h e.index × (IsData packet → segment_of e.started packet ≡ i)

-- the subscriber wrote it, toward the host: Flow Control is handed out, an Ack is a reply, and if it is a Data Ack, to a copy of the segment i
abbrev pub wrote_by : Bool → Kind
wrote_by true = hands
wrote_by false = arrives

abbrev pub Told : End → ℕ → List ℕ → Event → Type 0
Told s i packet e =
    (is subscriber (wrote_by (is_flow (kind_of (fields_at packet).kind))) e.call ≡ true)
    × (written e ≡ packet)
    × Toward s e.index
    × (IsDataAck packet → e.call.copy_of ≡ i)

-- ---- the link

-- What has happened, the latest first, since the packet was written that arrived last at the subscriber; and since that which arrived last at the host.
-- Only what was written since then can arrive.
pub record Link : Type 0 where
  pub to_subscriber : List Event
  pub to_host : List Event

abbrev pub empty : Link
empty = record { to_subscriber = []; to_host = [] }

-- An arrival is a copy of a packet that one of these events wrote; `later` is what came after that event. What was written before it is lost, and it
-- does not arrive again.
pub record Copied (Wrote : Event → Type 0) (recent later : List Event) : Type 0 where
  pub source : Event
  pub before : List Event
  pub order : recent ≡ later ++ (source ∷ before)
  pub wrote : Wrote source

-- no arrival: nothing goes
abbrev pub Brings : Bool → (Event → Type 0) → List Event → List Event → Type 0
Brings true Wrote recent later = Copied Wrote recent later
Brings false Wrote recent later = later ≡ recent

-- The premises on a call, where the link had q and keeps `later`: arrivals in order, and one opening.
pub record InOrder (h s : End) (w : Run) (q : Link) (c : Call) (later : Link) : Type 0 where
  pub at_subscriber :
      Brings (is subscriber arrives c && binds s c.request.octets) (Sent h c.copy_of c.request.octets) q.to_subscriber later.to_subscriber
  pub at_host_end : Brings (is host arrives c && steers h c.request.octets) (Told s c.copy_of c.request.octets) q.to_host later.to_host
  pub opens_host : granted host opens h.index (event_of w c) ≡ true → openings host h.index w.past ≡ 0
  pub opens_subscriber : granted subscriber opens s.index (event_of w c) ≡ true → openings subscriber s.index w.past ≡ 0

-- the call is the latest event for both
abbrev pub grown : Event → Link → Link
grown e q = record { to_subscriber = e ∷ q.to_subscriber; to_host = e ∷ q.to_host }

abbrev pub AllInOrder : End → End → Run → Link → List Call → Type 0
AllInOrder h s w q [] = Unit {0}
AllInOrder h s w q (c ∷ l) = (later : Link) × InOrder h s w q c later × AllInOrder h s (step w c) (grown (event_of w c) later) l
