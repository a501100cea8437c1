-- `sender_packets::handing::send` meets its contract: its writer does not refuse it, so the length settles the answer.
use Rattle.std.proofs.Common.{ℕ, ◌≤◌, length, sym, arith, ap, ◌∙◌}
use Rattle.std.specs.Prelude.{Result}
use Rattle.packet.specs.declared.writing.WriteError.{WriteError}
use Rattle.packet.specs.Writing.{after_write}
use Rattle.channel.specs.Prefixes.{prefix_of}
use Rattle.channel.specs.Steps.{doing, outgoing_length}
use Rattle.packet.proofs.WriteLaws.{write_done}
use Rattle.sender_packets.proofs.HandLaws.{sent_done, out_done}
use Rattle.sender_packets.proofs.handing.send.Goals as goal

pub returns : goal.returns
returns c =
    let a = c.args in
    let w = c.write_outgoing.ensures in
    let fits : outgoing_length a.before.addresses (length a.payload.now) ≤ length a.out.now = omega (arith, c.outgoing_length-n.ensures, c.if-out-n.false) in
    let p = c.requires in (
      c.done.ensures
          ∙ ap (doing a.after) c.outgoing_length-n.ensures
          ∙ sym (sent_done a.before a.after (length a.payload.now) (length a.out.now) fits),
      w.1
          ∙ ap (λ (x : Result ℕ WriteError). after_write x a.fields (prefix_of a.before.addresses.own) a.payload.now a.out.now)
          (w.0 ∙ write_done a.fields a.before.addresses.own.length (length a.payload.now) (length a.out.now) p.base p.plain fits)
          ∙ sym (out_done a.before.addresses a.fields a.payload.now a.out.now fits),
    )
