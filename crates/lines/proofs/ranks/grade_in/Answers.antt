-- `lines::ranks::grade_in` meets its contract.
use mathlib.Core.Path.{sym}
use native.Mathlib.Omega.{arith}
use Rattle.laws.proofs.Choice.{first_not}
use Rattle.lines.proofs.GradeLaws as grade
use Rattle.lines.proofs.CodeLaws as code
use Rattle.lines.proofs.ranks.grade_in.Goals as goal

pub returns-then-not-ready : goal.returns-then-not-ready
returns-then-not-ready c =
    let a = c.args in
    sym (grade.grade_not a.rank a.i a.ready a.lines.now (first_not a.ready _ c.if-not-ready.true))

pub overflow_add-result : goal.overflow_add-result
overflow_add-result c =
    let a = c.args in
    let g = code.graded a.lines.now a.rank a.i a.ready c.if-not-ready.false c.in-Some.p c.in-Some.ensures in
    omega arith
