-- `sender::ticking::lower_all` meets its contract: the invariant: the timers that were passed are lowered.
use Rattle.std.proofs.Common.{◌≡◌, ◌≤◌, ◌∙◌, ap₂, ◌++◌, List, ℕ, length, get_or, arith, rules}
use mathlib.Core.List.{map}
use Rattle.std.proofs.lemmas.Grind.{common_steps}
use Rattle.std.proofs.lemmas.List.{append-nil, take_all}
use lib.ListN.{drop_of_length-le}
use Rattle.std.proofs.lemmas.List.Edits.{map_over_more}
use Rattle.sender.specs.Ticking.{lowered}
use Rattle.sender.proofs.ticking.lower_all.Goals as goal

pub loop-ticks-preserved : goal.loop-ticks-preserved
loop-ticks-preserved c =
    let at = c.loop-ticks in
    let long : length c.args.left ≡ 128 = search rules in
    let read : get_or at.ticks-items at.ticks-index 0 ≡ get_or at.ticks-items at.ticks-index (get_or at.ticks-items at.ticks-index 0) = grind (arith, common_steps, at.invariant) in
    rw c.saturating_sub.ensures (map_over_more lowered c.args.left at.ticks-items at.ticks-index (get_or at.ticks-items at.ticks-index 0) (omega (arith, long, c.loop-ticks-test.true)) at.invariant read)

pub returns : goal.returns
returns c =
    let at = c.loop-ticks in
    let long : length c.args.left ≡ 128 = search rules in
    let past : length c.args.left ≤ at.ticks-index = omega (arith, long, c.loop-ticks-test.false) in
    at.invariant ∙ ap₂ (λ (xs ys : List ℕ). map lowered xs ++ ys) (take_all at.ticks-index c.args.left past) (drop_of_length-le c.args.left past) ∙ append-nil (map lowered c.args.left)
