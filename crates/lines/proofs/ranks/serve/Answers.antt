-- `lines::ranks::serve` meets its contract: it leaves the line of the rank, and is relisted.
use mathlib.Core.Path.{sym}
use mathlib.Core.Path.{subst}
use native.Mathlib.Omega.{arith}
use Rattle.lines.specs.Fit.{Fit}
use Rattle.lines.proofs.FitLaws as fit
use Rattle.lines.proofs.ranks.serve.Goals as goal

pub relist-requires : goal.relist-requires
relist-requires c =
    let a = c.args in
    (subst (Fit 16) (sym c.leave_from.ensures) (fit.left_fit 16 a.lines.now c.requires.0 _ (omega arith) a.i), c.requires.2)
