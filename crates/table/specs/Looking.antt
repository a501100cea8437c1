-- Which record of the table a call is for (document 01, Answer numbers: 'Data and Control look for a receiving record, Acks for a sending
-- one; none found is 14'; document 02, A2: a Heartbeat and its Ack for either; A5: Flow Control for a sending one, its Ack for a receiving one; A4, in place of 01's order of channels of equal rank).
use Rattle.std.specs.Prelude.{ℕ, ◌+◌, Bool, true, ◌&&◌, List, [], ◌∷◌, leb, ltb, eqb, if◌then◌else◌}
use Rattle.packet.specs.declared.fields.Fields.{Fields}
use Rattle.packet.specs.declared.kinds.Kind.{Kind}
use Rattle.packet.specs.declared.kinds.Kind.TheVariants.{Data, DataAck, Open, Close, Heartbeat, HeartbeatAck, FlowControl, ControlAck, Lacking}
use Rattle.packet.specs.Kinds.{kind_of}
use Rattle.channel.specs.declared.record.Addresses.{Addresses}
use Rattle.channel.specs.declared.record.Channel.{Channel}
use Rattle.channel.specs.declared.answer.Refusal.{Refusal}
use Rattle.channel.specs.declared.answer.Refusal.TheVariants as refusal
use Rattle.channel.specs.declared.record.Prefix.{Prefix}
use Rattle.channel.specs.Record.{sends, receives}
use Rattle.channel.specs.Prefixes.{same_prefix, no_prefix}
use Rattle.table.specs.declared.looking.Look.{Look}
use Rattle.table.specs.declared.looking.Sought.{Sought}
use Rattle.table.specs.declared.looking.Sought.TheVariants.{Index, Question, Packet, Ready, Nobody}
use Rattle.table.specs.Waiting.{grade_at}

-- of type 6 the octets that it carries tell its end: one, and it is Flow Control; none, and it is the Ack of it
abbrev pub flow_finds : ℕ → ℕ
flow_finds x = if eqb x 0 then receives else sends

-- a packet of a kind that carries x octets looks for a record of this direction; no field of a Heartbeat tells its end
abbrev pub looks_for : Kind → ℕ → ℕ → Bool
looks_for Data x direction = eqb direction receives
looks_for DataAck x direction = eqb direction sends
looks_for Open x direction = eqb direction receives
looks_for Close x direction = eqb direction receives
looks_for Heartbeat x direction = true
looks_for HeartbeatAck x direction = true
looks_for FlowControl x direction = eqb direction (flow_finds x)
looks_for ControlAck x direction = eqb direction sends
looks_for (Lacking code) x direction = eqb direction receives

-- a packet that carries x octets, with the prefix q, is for the channel with these addresses
unfoldable pub same : Addresses → Fields → ℕ → Prefix → Bool
same a f x q =
    eqb a.channel f.channel
    && eqb a.remote f.source
    && same_prefix a.prefix q
    && looks_for (kind_of f.kind) x a.direction

-- what is looked for where no prefix counts
abbrev pub seeking : Sought → Look
seeking sought = record { sought = sought; prefix = no_prefix }

-- ---- how well a record suits: 0 best, 48 not at all

abbrev pub indexed : ℕ → ℕ → ℕ
indexed i j = if eqb i j then 0 else 48

abbrev pub addressed : Fields → ℕ → Prefix → Addresses → ℕ
addressed f x q a = if same a f x q then 0 else 48

-- the record at index j; the packet that goes next is of the channel whose turn it is by the lines
abbrev pub graded_by : Sought → Prefix → List ℕ → ℕ → Channel → ℕ
graded_by (Index i) q lines j c = indexed i j
graded_by (Question i) q lines j c = indexed i j
graded_by (Packet f start x) q lines j c = addressed f x q c.addresses
graded_by Ready q lines j c = grade_at j c lines
graded_by (Nobody why) q lines j c = 48

abbrev pub graded : Look → List ℕ → ℕ → Channel → ℕ
graded look lines j c = graded_by look.sought look.prefix lines j c

-- the index of the record that suits best, the lowest among equals, and how well it does
pub record Chosen : Type 0 where
  pub at : ℕ
  pub grade : ℕ

unfoldable pub chosen_from : Look → List ℕ → ℕ → List Channel → Chosen
chosen_from look lines j [] = record { at = j; grade = 48 }
chosen_from look lines j (c ∷ t) =
    if leb (graded look lines j c) (chosen_from look lines (j + 1) t).grade then record { at = j; grade = graded look lines j c }
    else chosen_from look lines (j + 1) t

abbrev pub chosen : Look → List ℕ → List Channel → Chosen
chosen look lines t = chosen_from look lines 0 t

abbrev pub is_found : Chosen → Bool
is_found x = ltb x.grade 48

-- the refusal where none suits: 14, for the next packet 12
abbrev pub missing : Sought → Refusal
missing (Index i) = refusal.NoChannel
missing (Question i) = refusal.NoChannel
missing (Packet f start x) = refusal.NoChannel
missing Ready = refusal.Nothing
missing (Nobody why) = why
