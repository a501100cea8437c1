-- `channel::prefixes::fits_prefix` meets its contract: the octets past the length are tested in a row.
use Rattle.std.proofs.Common.{◌≡◌, length, rules, tests, arith, eqb, ◌∙◌}
use Rattle.std.proofs.lemmas.Iterator.{YieldsList-from_slice}
use Rattle.std.proofs.lemmas.Iterator.Search.{all_from_yields_List}
use Rattle.channel.proofs.PrefixLaws.{clear_past}
use Rattle.channel.proofs.prefixes.fits_prefix.Goals as goal

pub returns-then-n-le-MOST_PREFIX : goal.returns-then-n-le-MOST_PREFIX
returns-then-n-le-MOST_PREFIX c =
    let p = c.args.p in
    let long : length p.octets ≡ 15 = search rules in
    all_from_yields_List (λ x. eqb x 0) _ _ c.all.result c.all.ensures.ran (YieldsList-from_slice c.iter.result.rest.now cc) (λ x b q k. search (rules, tests))
    ∙ clear_past p c.iter.result.rest.now long (omega (arith, c.from-n.ensures)) (rw (← c.from-n.ensures) c.iter.ensures.rest)
