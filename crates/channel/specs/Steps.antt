-- What every step of a channel is made of.
use Rattle.std.specs.Prelude.{ℕ}
use Rattle.packet.specs.declared.fields.Fields.{Fields}
use Rattle.packet.specs.declared.kinds.Kind.{Kind}
use Rattle.packet.specs.Kinds.{code_of}
use Rattle.packet.specs.Layout.{whole_length}
use Rattle.channel.specs.declared.record.Node.{Node}
use Rattle.channel.specs.declared.record.Addresses.{Addresses}
use Rattle.channel.specs.declared.record.Channel.{Channel}
use Rattle.channel.specs.declared.record.Lone.{Lone}
use Rattle.channel.specs.declared.answer.Refusal.{Refusal}
use Rattle.channel.specs.declared.answer.Answer.{Answer}
use Rattle.channel.specs.declared.answer.Answer.TheVariants.{Done, Repeated, Inactive, Refused}
use Rattle.channel.specs.declared.step.Stepped.{Stepped}
use Rattle.channel.specs.Record.{enabled, fresh_of}

-- an answer, and nothing has changed
abbrev pub answered : Channel → Answer → Stepped
answered c a = record { channel = c; answer = a }

abbrev pub refusing : Channel → Refusal → Stepped
refusing c why = answered c (Refused why)

-- done, with n octets written
abbrev pub doing : Channel → ℕ → Stepped
doing c n = record { channel = c; answer = Done n 0 }

-- acknowledged, not accepted, with n octets written
abbrev pub repeating : Channel → ℕ → Stepped
repeating c n = record { channel = c; answer = Repeated n }

-- the channel, made inactive for a reason
abbrev pub failing : Channel → ℕ → Stepped
failing c why = record { channel = c; answer = Inactive why }

-- an opening begins: ENABLED, with a fresh window and nothing held; the reason of the last one goes
abbrev pub enabled_of : Channel → Lone → Channel
enabled_of c control = fresh_of c.addresses c.limits enabled control

-- a packet's fields, from this node to the channel's other end
abbrev pub outgoing_of : Node → Addresses → Kind → ℕ → ℕ → Fields
outgoing_of node a kind flags number =
    record {
      destination = a.remote;
      protocol = node.protocol;
      version = 1;
      secondary = 0;
      flags = flags;
      kind = code_of kind;
      channel = a.channel;
      number = number;
      reserved = 0;
      source = node.address;
    }

-- how many octets a packet has that goes to the channel's other end with a payload of x octets: of any kind, it carries the own prefix
abbrev pub outgoing_length : Addresses → ℕ → ℕ
outgoing_length a x = whole_length a.own.length x
