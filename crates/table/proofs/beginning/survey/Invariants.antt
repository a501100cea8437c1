-- What is carried is the survey of the records so far.
use Rattle.std.proofs.Common.{◌≡◌, ◌≤◌, ◌-◌, length, take}
use Rattle.walks.specs.Fold.{fold_from}
use Rattle.table.specs.Surveying.{survey_one, looked_at}
use Rattle.table.proofs.beginning.survey.Given as goal

abbrev pub invariant-loop-j : goal.invariant-loop-j
invariant-loop-j l =
    record {
      count : l.n ≡ looked_at (length l.t);
      upto : l.j ≤ l.n;
      carries : l.a ≡ fold_from survey_one l.lens 0 l.initial.a (take l.j l.t);
    }

abbrev pub decreases-loop-j : goal.decreases-loop-j
decreases-loop-j l = l.n - l.j
