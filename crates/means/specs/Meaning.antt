-- What a record's numbers mean in the protocol (crate protocol): its state, its limits, and the segment in a slot or in a Data packet.
use Rattle.std.specs.Prelude.{ℕ, List, eqb, get_or, if◌then◌else◌}
use Rattle.std.proofs.Math.Option.{Option, none, some}
use Rattle.slots.specs.Marks.{mark_of, begins, ends}
use Rattle.channel.specs.declared.record.Limits as channel
use Rattle.channel.specs.declared.record.Channel.{Channel}
use Rattle.channel.specs.Record as record_of
use Rattle.protocol.specs.Units.{Segment}
use Rattle.protocol.specs.Ends.{Limits, Phase, fresh, enabled, opened, closing, shut}
use Rattle.means.specs.Held.{octets_at}

-- CLOSED before the Open directive and CLOSED after it are two phases
abbrev pub state_of : Phase → ℕ
state_of fresh = record_of.closed
state_of enabled = record_of.enabled
state_of opened = record_of.opened
state_of closing = record_of.closing
state_of shut = record_of.closed

abbrev pub limits_of : channel.Limits → Limits
limits_of l = record { window = l.window; slots = l.slots; payload = l.payload; segments = l.segments }

-- a segment by its mark and its octets
abbrev pub segment_by : ℕ → List ℕ → Segment
segment_by mark octets = record { first = begins mark; last = ends mark; octets = octets }

-- the segment that a Data packet carries, by its flags and its payload
abbrev pub carried : ℕ → List ℕ → Segment
carried flags payload = segment_by (mark_of flags) payload

-- the segment at a place; none where its mark is 0
unfoldable pub lying : Channel → List ℕ → List ℕ → ℕ → Option Segment
lying c mem lens place =
    if eqb (get_or c.marks place 0) 0 then none
    else some (segment_by (get_or c.marks place 0) (octets_at c mem lens place))
