-- `table::beginning::survey` meets its contract: one record more is one turn more of the fold, and those that are not looked at do not count.
use Rattle.std.proofs.Common.{◌≡◌, ◌∙◌, refl, ◌<◌, length, arith}
use Rattle.walks.specs.Fold.{fold_from}
use Rattle.table.specs.Surveying.{survey_one, looked_at}
use Rattle.table.proofs.Folds.{fold_turned}
use Rattle.table.proofs.Looked.{looked_within}
use Rattle.table.proofs.FirstLaws.{first_surveyed}
use Rattle.table.proofs.beginning.survey.Goals as goal

pub loop-j-init : goal.loop-j-init
unfolding fold_from
loop-j-init c = record { count = c.looked_at-n.ensures; upto = omega arith; carries = refl }

pub loop-j-preserved : goal.loop-j-preserved
loop-j-preserved c =
    let within : c.loop-j.j < length c.args.t.now = omega (arith, c.loop-j.invariant.count, looked_within (length c.args.t.now)) in
    record {
      count = c.loop-j.invariant.count;
      upto = omega arith;
      carries = fold_turned survey_one c.args.lens.now _ c.loop-j.j c.args.start c.loop-j.a c.survey_one-b.result c.args.t.now within c.loop-j.invariant.carries c.survey_one-b.ensures;
    }

pub returns : goal.returns
returns c =
    let e : c.loop-j.j ≡ looked_at (length c.args.t.now) = omega (arith, c.loop-j.invariant.count) in
    c.loop-j.invariant.carries ∙ first_surveyed c.args.lens.now c.args.t.now c.args.start c.loop-j.j e
