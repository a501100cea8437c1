-- The reply to an arrival (document 01, Receiving: an Ack where the answer is 0 or 15; a Heartbeat is answered at either end: document 02, A2; an
-- Ack of Data or Control states a number: A5).
use Rattle.std.specs.Prelude.{ℕ, Bool, true, false, List, ◌++◌, length, drop, if◌then◌else◌}
use Rattle.packet.specs.Layout.{packet_of}
use Rattle.packet.specs.Tests.{flags_whole}
use Rattle.walks.specs.Serving.{Worked, works}
use Rattle.channel.specs.declared.record.Node.{Node}
use Rattle.channel.specs.declared.record.Addresses.{Addresses}
use Rattle.channel.specs.declared.record.Channel.{Channel}
use Rattle.channel.specs.declared.answer.Answer.{Answer}
use Rattle.channel.specs.declared.answer.Answer.TheVariants.{Done, Repeated, Inactive, Refused}
use Rattle.channel.specs.declared.step.Stepped.{Stepped}
use Rattle.channel.specs.Prefixes.{prefix_of}
use Rattle.channel.specs.Steps.{outgoing_of, outgoing_length}
use Rattle.channel.specs.Record.{with_pulse}
use Rattle.channel.specs.Flow.{replied_in}
use Rattle.receiver.specs.declared.acks.Acked.{Acked}
use Rattle.receiver.specs.Receiving.{ack_kind, carrying}

-- the reply: with 0 and 15 an Ack that carries the octets p at its front, with 9 and every refusal as it was
abbrev pub ack_out : Node → Addresses → Acked → ℕ → List ℕ → List ℕ → List ℕ
ack_out node a of number p out = packet_of (outgoing_of node a (ack_kind of) flags_whole number) (prefix_of a.own) p ++ drop (outgoing_length a (length p)) out

abbrev pub replied_by : Answer → Node → Addresses → Acked → ℕ → List ℕ → List ℕ → List ℕ
replied_by (Done n u) node a of number p out = ack_out node a of number p out
replied_by (Repeated n) node a of number p out = ack_out node a of number p out
replied_by (Inactive why) node a of number p out = out
replied_by (Refused why) node a of number p out = out

-- with 0 and 15 one is written
abbrev pub replies : Answer → Bool
replies (Done n u) = true
replies (Repeated n) = true
replies (Inactive why) = false
replies (Refused why) = false

-- the channel then: it has sent an Ack with this number, so that in OPEN the interval of its Heartbeat starts anew
abbrev pub acknowledging : ℕ → Stepped → Stepped
acknowledging number s =
    record {
      channel = with_pulse s.channel (if replies s.answer then replied_in s.channel.phase.state s.channel.limits number s.channel.pulse else s.channel.pulse);
      answer = s.answer;
    }

-- a step, with the reply that its answer asks for: it states the number of the window then
abbrev pub replying : Node → Channel → Acked → ℕ → Stepped → List ℕ → List ℕ → List ℕ → Worked Stepped
replying node c of number s mem lens out =
    works (acknowledging number s) mem lens (replied_by s.answer node c.addresses of number (carrying of c.limits s.channel.window) out)
