-- A node in which one channel is watched, and every call that can be made of it, with its real arguments.
use Rattle.std.specs.Prelude.{ℕ, ◌+◌, List, eqb, length, if◌then◌else◌}
use Rattle.walks.specs.Serving.{Called}
use Rattle.channel.specs.declared.record.Node.{Node}
use Rattle.channel.specs.declared.record.Channel.{Channel}
use Rattle.channel.specs.declared.answer.Answer.{Answer}
use Rattle.channel.specs.Record as state
use Rattle.table.specs.Serving.{record_at, own_mem, own_lens}
use Rattle.ticks.specs.Ticks.{ticked, tick_index}
use Rattle.node.specs.declared.request.Request as door
use Rattle.node.specs.declared.request.Request.TheVariants.{Open, Close, Transfer, WouldTransfer, Take, Reclaim, Arrival, NextPacket, Unknown}
use Rattle.node.specs.Calls.{served, served_index}
use Rattle.keeps.specs.Keeping.{staying}
use Rattle.protocol.specs.Numbers.{distance}
use Rattle.means.specs.Held.{units_held}

-- The node's own settings, the lent table, memory, lengths and lines, and the index of the channel that is watched. `start`: how many segments its
-- window has passed in this opening.
pub record End : Type 0 where
  pub node : Node
  pub table : List Channel
  pub mem : List ℕ
  pub lens : List ℕ
  pub lines : List ℕ
  pub index : ℕ
  pub start : ℕ

-- What can be asked of a node (crate node): `strays` is a request that is none.
pub data Kind : Type 0 where
  opens closes transfers asks takes reclaims hands arrives strays ticks : Kind

abbrev pub code : Kind → ℕ
code opens = 0
code closes = 1
code transfers = 2
code takes = 3
code reclaims = 4
code hands = 5
code arrives = 6
code ticks = 7
code asks = 8
code strays = 9

-- Its arguments, as far as it has them: any index of a channel; the octets of a unit or of a packet, or as many as are asked for; the lent buffer.
pub record Request : Type 0 where
  pub kind : Kind
  pub channel : ℕ
  pub octets : List ℕ
  pub buffer : List ℕ

-- the node's door, asked this: the definition that its contract cites (crate node), and nothing else
abbrev pub at_door : End → Request → door.Request → Called Answer Channel
at_door e r asked = served e.table e.mem e.lens e.lines asked r.octets r.buffer

-- What a call gives. A tick alone does not come by the door.
abbrev pub called_by : Kind → End → Request → Called Answer Channel
called_by opens e r = at_door e r (Open r.channel)
called_by closes e r = at_door e r (Close r.channel)
called_by transfers e r = at_door e r (Transfer r.channel)
called_by asks e r = at_door e r (WouldTransfer r.channel (length r.octets))
called_by takes e r = at_door e r (Take r.channel)
called_by reclaims e r = at_door e r (Reclaim r.channel)
called_by hands e r = at_door e r (NextPacket e.node)
called_by arrives e r = at_door e r (Arrival e.node)
called_by strays e r = at_door e r Unknown
called_by ticks e r = staying (ticked e.table e.mem e.lens e.lines) e.mem e.lens

abbrev pub called : End → Request → Called Answer Channel
called e r = called_by r.kind e r

-- The index that it tells, of the channel that it served: by it a driver knows where a packet goes that was handed out or replied.
abbrev pub index_at : End → Request → door.Request → ℕ
index_at e r asked = served_index e.table e.mem e.lens e.lines asked r.octets r.buffer

abbrev pub index_by : Kind → End → Request → ℕ
index_by opens e r = index_at e r (Open r.channel)
index_by closes e r = index_at e r (Close r.channel)
index_by transfers e r = index_at e r (Transfer r.channel)
index_by asks e r = index_at e r (WouldTransfer r.channel (length r.octets))
index_by takes e r = index_at e r (Take r.channel)
index_by reclaims e r = index_at e r (Reclaim r.channel)
index_by hands e r = index_at e r (NextPacket e.node)
index_by arrives e r = index_at e r (Arrival e.node)
index_by strays e r = index_at e r Unknown
index_by ticks e r = tick_index e.table e.mem e.lens e.lines

abbrev pub index_told : End → Request → ℕ
index_told e r = index_by r.kind e r

-- the record of the channel that is watched, and the units that it holds: read from record, memory and lengths
abbrev pub channel_of : End → Channel
channel_of e = record_at e.table e.index

abbrev pub units_of : End → List (List ℕ)
units_of e = units_held (channel_of e) (own_mem e.table e.index e.mem) (own_lens e.table e.index e.lens)

-- The record has the window's start modulo 256 only. It is counted on: in OPEN, by as much as a call has moved it round.
abbrev pub counted_on : ℕ → Channel → Channel → ℕ
counted_on n before after =
    if eqb after.phase.state state.opened then n + distance after.window.start before.window.start else n

abbrev pub after_call : End → Called Answer Channel → End
after_call e g =
    record {
      node = e.node;
      table = g.table;
      mem = g.mem;
      lens = g.lens;
      lines = g.lines;
      index = e.index;
      start = counted_on e.start (channel_of e) (record_at g.table e.index);
    }
