-- Which channel an arriving packet is for (document 01, Answer numbers: 'Arrivals test 11, 1, 2, 4, 3, 14, ..').
use Rattle.std.specs.Prelude.{ℕ, Bool, ◌&&◌, List, Result, Ok, Err, ltb, eqb, take, drop, if◌then◌else◌}
use Rattle.packet.specs.declared.fields.Fields.{Fields}
use Rattle.packet.specs.declared.reading.Found.{Found}
use Rattle.packet.specs.declared.reading.ReadError.{ReadError}
use Rattle.packet.specs.Layout.{least, prefix_from, prefix_at, prefix_in}
use Rattle.packet.specs.Reading.{read_of}
use Rattle.channel.specs.declared.record.Node.{Node}
use Rattle.channel.specs.declared.record.Prefix.{Prefix}
use Rattle.channel.specs.declared.answer.Refusal.TheVariants as refusal
use Rattle.channel.specs.Answers.{refusal_of}
use Rattle.channel.specs.Prefixes.{prefix_with}
use Rattle.table.specs.declared.looking.Look.{Look}
use Rattle.table.specs.declared.looking.Sought.TheVariants.{Packet, Nobody}
use Rattle.table.specs.Looking.{seeking}

-- the destination and the protocol ID are this node's; else 3
unfoldable pub is_ours : Node → Fields → Bool
is_ours node f = eqb f.destination node.address && eqb f.protocol node.protocol

abbrev pub look_for : Node → Fields → Prefix → ℕ → ℕ → Look
look_for node f q start x = if is_ours node f then record { sought = Packet f start x; prefix = q } else seeking (Nobody refusal.Strange)

-- the octets s, read so; the prefix is compared with those of the records
abbrev pub look_by : Node → List ℕ → Result Found ReadError → Look
look_by node s (Ok r) = look_for node r.fields (prefix_with r.prefix (take r.prefix (drop prefix_from s))) r.start r.length
look_by node s (Err why) = seeking (Nobody (refusal_of why))

-- with a reply buffer of so many octets
unfoldable pub look_of : Node → List ℕ → ℕ → Look
look_of node s room = if ltb room least then seeking (Nobody (refusal.Small least)) else look_by node s (read_of s)

-- the prefix of a packet that was found
abbrev pub prefix_read : List ℕ → Prefix
prefix_read s = prefix_with (prefix_at s) (prefix_in s)
