-- What happened, and what is read from it: from the calls, their answers and the octets that they wrote, and from nothing that an end remembers.
use Rattle.std.specs.Prelude.{ℕ, suc, ◌+◌, ◌≡◌, ◌⊎◌, Bool, true, false, not, ◌&&◌, List, [], ◌∷◌, ◌++◌, Result, Ok, Err, eqb, take, if◌then◌else◌}
use Rattle.packet.specs.declared.kinds.Kind as packets
use Rattle.packet.specs.declared.kinds.Kind.TheVariants.{Data, DataAck}
use Rattle.packet.specs.declared.kinds.Kind.TheVariants as kinds
use Rattle.packet.specs.Kinds.{kind_of}
use Rattle.packet.specs.Layout.{fields_at}
use Rattle.packet.specs.declared.reading.Found.{Found}
use Rattle.packet.specs.declared.reading.ReadError.{ReadError}
use Rattle.packet.specs.Reading.{read_of}
use Rattle.channel.specs.declared.record.Node.{Node}
use Rattle.channel.specs.declared.record.Addresses.{Addresses}
use Rattle.channel.specs.declared.answer.Answer.{Answer}
use Rattle.channel.specs.Answers.{number_of, length_of, confirmed_of}
use Rattle.channel.specs.Prefixes.{same_prefix}
use Rattle.channel.specs.Pairs.{filed}
use Rattle.table.specs.Looking.{same}
use Rattle.table.specs.Serving.{record_at}
use Rattle.arrivals.specs.Finding.{is_ours, prefix_read}
use Rattle.protocol.specs.Numbers.{number_at, distance}
use Rattle.delivery.specs.Calls.{End, Kind, opens, transfers, takes, reclaims, hands, arrives, code, Request, channel_of}

pub data Side : Type 0 where
  host subscriber : Side

abbrev pub side_code : Side → ℕ
side_code host = 0
side_code subscriber = 1

-- A call at one of the two nodes. `copy_of` is for an arrival: the segment (from 0) of which a Data packet is a copy, or that a Data Ack answers.
-- That is the link's business, and no end sees it.
pub record Call : Type 0 where
  pub side : Side
  pub request : Request
  pub copy_of : ℕ

-- A call that was made, with what came of it: the answer, the lent buffer as it was left, the index that was told, and where the window of this
-- node's channel had started. A history is a list of these, the latest first.
pub record Event : Type 0 where
  pub call : Call
  pub started : ℕ
  pub index : ℕ
  pub answer : Answer
  pub out : List ℕ

-- the call is of this kind, at this node
abbrev pub is : Side → Kind → Call → Bool
is side kind c = eqb (side_code c.side) (side_code side) && eqb (code c.request.kind) (code kind)

-- it was for the channel with this index, and answered 0
abbrev pub granted : Side → Kind → ℕ → Event → Bool
granted side kind index e = is side kind e.call && eqb e.call.request.channel index && eqb (number_of e.answer) 0

-- the octets that it wrote into its buffer
abbrev pub written : Event → List ℕ
written e = take (length_of e.answer) e.out

-- ---- packets

-- The octets are a packet that a node takes for the channel with these addresses: whole, undamaged, of a known form, and addressed to it.
abbrev pub names_by : Result Found ReadError → List ℕ → Node → Addresses → Bool
names_by (Ok r) packet node a = is_ours node r.fields && same a r.fields r.length (prefix_read packet)
names_by (Err why) packet node a = false

abbrev pub names : End → List ℕ → Bool
names e packet = names_by (read_of packet) packet e.node (channel_of e).addresses

-- a Heartbeat, Flow Control, or the Ack of either (document 02, A2 and A5)
abbrev pub is_free : packets.Kind → Bool
is_free kinds.Data = false
is_free kinds.DataAck = false
is_free kinds.Open = false
is_free kinds.Close = false
is_free kinds.Heartbeat = true
is_free kinds.HeartbeatAck = true
is_free kinds.FlowControl = true
is_free kinds.ControlAck = false
is_free (kinds.Lacking code) = false

-- It names the channel, and the premises bind it: any other packet. Of Heartbeats, Flow Control and their Acks the link may bring what it likes, forged
-- ones too.
abbrev pub binds : End → List ℕ → Bool
binds e packet = names e packet && not (is_free (kind_of (fields_at packet).kind))

-- of what kind it is
abbrev pub IsData : List ℕ → Type 0
IsData packet = kind_of (fields_at packet).kind ≡ Data

abbrev pub IsDataAck : List ℕ → Type 0
IsDataAck packet = kind_of (fields_at packet).kind ≡ DataAck

-- the segment of a Data packet that is handed out: its number, counted on from where the window starts
abbrev pub segment_of : ℕ → List ℕ → ℕ
segment_of started packet = started + distance (fields_at packet).number (number_at started)

-- A packet of the channel with this index goes where those of the watched one go: to the same region. Two nodes in two regions may have one logical
-- address; what parts them is the prefix of the destination, which stands before a packet and is the driver's (000, 4.2.2.1; document 02, A7).
abbrev pub Toward : End → ℕ → Type 0
Toward e j = same_prefix (record_at e.table j).addresses.prefix (channel_of e).addresses.prefix ≡ true

-- the host handed out this packet, toward the subscriber, and if it is Data, for the segment i
abbrev pub HandedOut : End → List Event → ℕ → List ℕ → Type 0
HandedOut h [] i packet = ⊥
HandedOut h (e ∷ past) i packet =
    ((is host hands e.call ≡ true) × (written e ≡ packet) × Toward h e.index × (IsData packet → segment_of e.started packet ≡ i))
    ⊎ HandedOut h past i packet

-- the subscriber replied with this packet, toward the host, and if it is a Data Ack, to a copy of the segment i
abbrev pub Replied : End → List Event → ℕ → List ℕ → Type 0
Replied s [] i packet = ⊥
Replied s (e ∷ past) i packet =
    ((is subscriber arrives e.call ≡ true) × (written e ≡ packet) × Toward s e.index × (IsDataAck packet → e.call.copy_of ≡ i))
    ⊎ Replied s past i packet

-- ---- the accounts of the channel whose two ends were these at the beginning

-- how often an Open directive for it was accepted
abbrev pub openings : Side → ℕ → List Event → ℕ
openings side index [] = 0
openings side index (e ∷ past) = if granted side opens index e then suc (openings side index past) else openings side index past

-- the units of the transfers answered 0, in order, as they were filed: on a pair with the leading octet 0 (document 02, A13)
abbrev pub accepted : End → List Event → List (List ℕ)
accepted h [] = []
accepted h (e ∷ past) = if granted host transfers h.index e then accepted h past ++ (filed (channel_of h).limits e.call.request.octets ∷ []) else accepted h past

-- the units that the host was told are confirmed: the counts that came with packets for this channel
abbrev pub confirmed : End → List Event → ℕ
confirmed h [] = 0
confirmed h (e ∷ past) =
    if is host arrives e.call && names h e.call.request.octets then confirmed h past + confirmed_of e.answer else confirmed h past

-- the units that the host got back: written by the reclaims answered 0, in order
abbrev pub reclaimed : End → List Event → List (List ℕ)
reclaimed h [] = []
reclaimed h (e ∷ past) = if granted host reclaims h.index e then reclaimed h past ++ (written e ∷ []) else reclaimed h past

-- the units that the subscriber was given: written by the takes answered 0, in order
abbrev pub taken : End → List Event → List (List ℕ)
taken s [] = []
taken s (e ∷ past) = if granted subscriber takes s.index e then taken s past ++ (written e ∷ []) else taken s past
