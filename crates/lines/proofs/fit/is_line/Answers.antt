-- `lines::fit::is_line` meets its contract: where the row passes, all behind it is blank or not.
use mathlib.Core.Path.{sym, ◌∙◌}
use mathlib.Core.Bool.{false≢true}
use native.Mathlib.Omega.{arith}
use borrow.Author.Tests.{lt-leb}
use lib.ListN.{length-drop}
use lib.Seq.{take_all}
use Rattle.std.proofs.Common.{rules, tests, ◌+◌, get_or, drop}
use Rattle.std.proofs.lemmas.Iterator.{YieldsList-from_slice}
use Rattle.std.proofs.lemmas.Iterator.Search.{all_from_yields_List}
use Rattle.lines.proofs.CodeLaws.{row_passes}
use Rattle.lines.proofs.fit.is_line.Goals as goal
use Rattle.lines.proofs.fit.is_line.Goals.{then-count-le16, else-count-le16}

pub returns-then-is_apart : goal.returns-then-is_apart
returns-then-is_apart c =
    let o = c.args.line.now in
    let rest = drop (get_or o 0 0 + 1) o in
    let whole = c.iter.ensures.rest ∙ take_all _ rest (omega (arith, length-drop (get_or o 0 0 + 1) o)) in
    let all = all_from_yields_List _ _ _ _ c.all.ensures.ran (YieldsList-from_slice rest whole) (λ x b q k. search (rules, tests)) in
    elim c.if-count-le16.branch [
      | then-count-le16 w ↦ all ∙ row_passes c.args.n o w.if-count-le16.true (sym w.is_apart.ensures ∙ sym w.value-is ∙ c.if-is_apart.true)
      | else-count-le16 w ↦ absurd (false≢true (sym (w.value-is ∙ lt-leb (get_or o 0 0) 16 w.if-count-le16.false) ∙ c.if-is_apart.true))
    ]
