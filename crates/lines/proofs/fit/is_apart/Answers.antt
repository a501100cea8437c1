-- `lines::fit::is_apart` meets its contract. The invariant: whether those left are below n, apart, and not marked, is whether all are below n and apart.
use mathlib.Core.Path.{refl, sym, ◌∙◌}
use lib.ListN.{length-set}
use Rattle.lines.proofs.CodeLaws as code
use Rattle.lines.proofs.fit.is_apart.Goals as goal
use Rattle.lines.proofs.fit.is_apart.Goals.{then-n-x-via-then-n-x, then-n-x-via-else-n-x+then-passed-x}

pub loop-x-init : goal.loop-x-init
loop-x-init c = (code.fresh_all c.args.n c.args.row.now c.requires, refl)

pub returns-then-n-x : goal.returns-then-n-x
returns-then-n-x c =
    let at = c.loop-x in
    let a = c.args in
    elim c.then-n-x.branch [
      | then-n-x-via-then-n-x w ↦ sym (code.too_high a.row.now at.passed a.n at.x-index c.loop-x-test.true w.if-n-x.true) ∙ at.invariant.0
      | then-n-x-via-else-n-x+then-passed-x w ↦ sym (code.twice a.row.now at.passed a.n at.x-index c.loop-x-test.true w.if-passed-x.true) ∙ at.invariant.0
    ]

pub loop-x-preserved : goal.loop-x-preserved
loop-x-preserved c =
    let at = c.loop-x in
    let a = c.args in
    (sym (code.goes_on a.row.now at.passed a.n at.x-index c.loop-x-test.true c.if-n-x.false c.if-passed-x.false) ∙ at.invariant.0, simp length-set at.invariant.1)

pub returns : goal.returns
returns c =
    let at = c.loop-x in
    let a = c.args in
    sym (code.fresh_ends a.row.now at.passed a.n at.x-index c.loop-x-test.false) ∙ at.invariant.0
