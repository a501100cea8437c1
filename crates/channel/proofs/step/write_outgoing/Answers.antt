-- `channel::step::write_outgoing` meets its contract: of the octets of the own prefix that part is lent to the writer.
use Rattle.std.proofs.Common.{◌≡◌, ℕ, List, length, take, sym, ap, ◌∙◌, arith, rules}
use Rattle.packet.specs.Writing.{written_of, after_write}
use Rattle.channel.proofs.PrefixLaws.{prefix_length, prefix_short, lent_first}
use Rattle.channel.proofs.step.write_outgoing.Goals as goal

pub slice_bounds-prefix-end : goal.slice_bounds-prefix-end
slice_bounds-prefix-end c =
    let long : length c.args.a.own.octets ≡ 15 = search rules in
    omega (arith, c.from-n.ensures, prefix_short c.args.a.own c.requires)

pub slice_bounds-write_packet-end : goal.slice_bounds-write_packet-end
slice_bounds-write_packet-end c =
    let p = c.args.a.own in
    let long : length p.octets ≡ 15 = search rules in
    let q = ap (λ (k : ℕ). take k p.octets) c.from-n.ensures ∙ lent_first p (omega (arith, prefix_short p c.requires)) in
    c.from-n.ensures ∙ sym (ap length q ∙ prefix_length p)

pub returns : goal.returns
returns c =
    let a = c.args in
    let p = a.a.own in
    let long : length p.octets ≡ 15 = search rules in
    let q = ap (λ (k : ℕ). take k p.octets) c.from-n.ensures ∙ lent_first p (omega (arith, prefix_short p c.requires)) in
    let n = ap length q ∙ prefix_length p in (
      c.write_packet.ensures.0 ∙ ap (λ (k : ℕ). written_of a.fields k (length a.payload.now) (length a.out.now)) n,
      c.write_packet.ensures.1 ∙ ap (λ (l : List ℕ). after_write c.write_packet.result a.fields l a.payload.now a.out.now) q,
    )
