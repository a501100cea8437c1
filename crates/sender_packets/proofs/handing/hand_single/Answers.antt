-- `sender_packets::handing::hand_single` meets its contract: the fields are those of an Open, a Heartbeat, a Close or Flow Control, which alone carries an octet.
use Rattle.std.proofs.Common.{ℕ, [], ◌∷◌, length, take, sym, ◌∙◌, subst, ap₂}
use Rattle.packet.specs.declared.fields.Fields.{Fields}
use Rattle.packet.specs.declared.kinds.Kind.{Kind}
use Rattle.channel.specs.Flow.{flow_number}
use Rattle.channel.specs.Steps.{outgoing_of}
use Rattle.sender_packets.specs.Asked.{Plain}
use Rattle.sender_packets.proofs.HandLaws.{one_if, single_goes}
use Rattle.sender_packets.proofs.handing.hand_single.Goals as goal

pub send-requires : goal.send-requires
send-requires c =
    let a = c.args in
    let k = a.c in
    let fields = c.outgoing-fields.ensures ∙ ap₂ (λ (x : Kind) (n : ℕ). outgoing_of a.node k.addresses x 3 n) c.single_kind-kind.ensures c.single_number-number.ensures in
    subst (λ (f : Fields). Plain k.addresses f (length (take c.from.result (c.number_stated-stated.result ∷ [])))) (sym fields)
    (single_goes a.node k.addresses c.requires.0 k.phase.state c.is_flow-flow.result (flow_number k.pulse.flow) c.number_stated-stated.result c.from.result (c.from.ensures ∙ one_if c.is_flow-flow.result))
