-- `settings::settling::each_fits` meets its contract: it asks each with its place, from the first on.
use Rattle.std.proofs.Common.{◌∙◌, refl, rules}
use Rattle.std.proofs.lemmas.Iterator.{YieldsList-from_slice}
use Rattle.std.proofs.lemmas.Iterator.Consumers.{YieldsList-from_enumerate}
use Rattle.std.proofs.lemmas.Iterator.Search.{all_from_yields_List}
use Rattle.settings.proofs.Fitting.{fits_at, each_all}
use Rattle.settings.proofs.settling.each_fits.Goals as goal

pub returns : goal.returns
returns c =
    let s = c.args.s.now in
    all_from_yields_List (fits_at s) _ _ c.all.result c.all.ensures.ran (YieldsList-from_enumerate (YieldsList-from_slice s (cc)) (cc)) (λ x b q k. search rules)
    ∙ each_all s s 0 refl
