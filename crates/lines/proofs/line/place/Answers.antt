-- `lines::line::place` meets its contract: it searches the row of those who stand.
use mathlib.Core.Path.{ap, ◌∙◌}
use Rattle.std.proofs.Common.{rules, tests, position, ◌==◌, ◌+◌, ◌-◌, take, drop}
use Rattle.std.proofs.lemmas.Iterator.{YieldsList-from_slice}
use Rattle.std.proofs.lemmas.Iterator.Search.{position_from_yields_List}
use Rattle.lines.proofs.CodeLaws.{row_line}
use Rattle.lines.proofs.line.place.Goals as goal

pub returns : goal.returns
returns c =
    let o = c.args.line.now in
    let row = take (c.min-end.result + 1 - 1) (drop 1 o) in
    position_from_yields_List _ _ _ _ c.position.ensures.ran (YieldsList-from_slice row c.iter.ensures.rest) (λ x b q k. search (rules, tests))
    ∙ ap (λ n. position (λ x. x == c.args.i) (take (n + 1 - 1) (drop 1 o))) c.min-end.ensures
    ∙ ap (position (λ x. x == c.args.i)) (row_line o c.requires)
