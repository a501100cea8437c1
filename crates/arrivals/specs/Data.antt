-- An arrival of Data (document 01, Answer numbers: 'Data payload over P (3)'; Receiving).
use Rattle.std.specs.Prelude.{ℕ, Bool, false, not, List, ltb, eqb, if◌then◌else◌}
use Rattle.packet.specs.declared.fields.Fields.{Fields}
use Rattle.packet.specs.declared.kinds.Kind.{Kind}
use Rattle.packet.specs.declared.kinds.Kind.TheVariants.{Data, DataAck, Open, Close, Heartbeat, HeartbeatAck, FlowControl, ControlAck, Lacking}
use Rattle.packet.specs.Kinds.{kind_of}
use Rattle.packet.specs.Layout.{least}
use Rattle.channel.specs.declared.record.Node.{Node}
use Rattle.channel.specs.declared.record.Channel.{Channel}
use Rattle.channel.specs.Steps.{outgoing_length}
use Rattle.channel.specs.Flow.{flows}
use Rattle.receiver.specs.Receiving.{stated_count, ack_length}
use Rattle.receiver.specs.declared.acks.Acked.TheVariants as acked
use Rattle.receiver_data.specs.Data.{data_step, data_mem, data_lens}
use Rattle.table.specs.Serving.{Step}
use Rattle.arrivals.specs.Replying.{replying}

-- the octets that the reply to a packet of a kind with x octets needs: an Ack carries the own prefix, and that of Data or Control the number stated; where no reply is due, as to an Ack, those that
-- are asked for first. Type 6 is an Ack where it carries nothing
abbrev pub reply_length : Channel → Kind → ℕ → ℕ
reply_length c Data x = ack_length c
reply_length c DataAck x = least
reply_length c Open x = ack_length c
reply_length c Close x = ack_length c
reply_length c Heartbeat x = outgoing_length c.addresses 0
reply_length c HeartbeatAck x = least
reply_length c FlowControl x = if eqb x 0 then least else outgoing_length c.addresses 0
reply_length c ControlAck x = least
reply_length c (Lacking code) x = least

-- what this channel cannot take of a packet of a kind with x octets: Data payload over P; an Ack of Data or Control with a number stated where Flow
-- Control is not used, or without one where it is; and type 6 where it is not (document 02, A5)
abbrev pub unfit_as : Kind → Channel → ℕ → Bool
unfit_as Data c x = ltb c.limits.payload x
unfit_as DataAck c x = not (eqb x (stated_count c.limits))
unfit_as Open c x = false
unfit_as Close c x = false
unfit_as Heartbeat c x = false
unfit_as HeartbeatAck c x = false
unfit_as FlowControl c x = not (flows c.limits)
unfit_as ControlAck c x = not (eqb x (stated_count c.limits))
unfit_as (Lacking code) c x = false

unfoldable pub unfit : Channel → Fields → ℕ → Bool
unfit c f x = unfit_as (kind_of f.kind) c x

-- Data, with its payload
abbrev pub data_for : Node → Fields → List ℕ → Step
data_for node f payload c rank mem lens out =
    replying node c acked.Data f.number (data_step c f.number f.flags) (data_mem c f.number payload mem) (data_lens c f.number payload lens) out
