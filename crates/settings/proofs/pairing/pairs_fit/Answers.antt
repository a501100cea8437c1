-- `settings::pairing::pairs_fit` meets its contract: it asks each place of the range, and they are the pairs from the first on.
use Rattle.std.proofs.Common.{◌∙◌, refl, length, rules, arith}
use Rattle.std.proofs.lemmas.Iterator.{YieldsList-from_range}
use Rattle.std.proofs.lemmas.Iterator.Search.{all_from_yields_List}
use Rattle.channel.specs.Pairs.{pair_fits, spares_of, leads_of, ways_of}
use Rattle.settings.proofs.Named.{pairs_all}
use Rattle.settings.proofs.pairing.pairs_fit.Goals as goal

pub returns : goal.returns
returns c =
    let s = c.args.s.now in
    let n = length s in
    all_from_yields_List (λ i. pair_fits (spares_of s) (leads_of s) (ways_of s) n i) _ _ c.all.result c.all.ensures.ran (YieldsList-from_range 0 n n refl (omega arith)) (λ x b q k. search rules)
    ∙ pairs_all (spares_of s) (leads_of s) (ways_of s) n n 0
