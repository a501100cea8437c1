-- `channel::prefixes::is_same` meets its contract: equal arrays are equal octet by octet.
use Rattle.std.proofs.Common.{◌≡◌, length, rules, ap, ◌∙◌, ◌&&◌, Bool, eqb}
use Rattle.channel.specs.Prefixes.{same_prefix}
use Rattle.channel.proofs.PrefixLaws.{same_last}
use Rattle.channel.proofs.prefixes.is_same.Goals as goal

pub returns : goal.returns
unfolding same_prefix
returns c =
    let p = c.args.p in
    let q = c.args.q in
    let a : length p.octets ≡ 15 = search rules in
    let b : length q.octets ≡ 15 = search rules in
    c.eq.ensures ∙ ap (λ (t : Bool). eqb p.length q.length && t) (same_last p.octets q.octets 15 0 a b)
