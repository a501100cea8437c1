-- `receiver::acks::acknowledge` meets its contract: the writer never refuses such fields.
use Rattle.receiver.proofs.StepLaws.{ack_written}
use Rattle.receiver.proofs.acks.acknowledge.Goals as goal

pub returns : goal.returns
returns c =
    let a = c.args in
    ack_written a.node a.a a.number c.requires.0 a.of c.ack_kind.result c.outgoing-fields.result c.write_outgoing.result a.payload.now a.reply.now _ c.ack_kind.ensures c.outgoing-fields.ensures
    c.write_outgoing.ensures.0 c.write_outgoing.ensures.1 c.requires.1 c.requires.2
