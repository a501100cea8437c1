-- `lines::fit::is_apart` meets its contract. The invariant: whether those left are below n, apart, and not marked, is whether all are below n and apart.
use mathlib.Core.Path.{◌≡◌}
use mathlib.Core.Bool.{◌&&◌}
use lib.ListN.{length, drop}
use Rattle.lines.specs.Fit.{below, apart}
use Rattle.lines.proofs.CodeLaws as code
use Rattle.lines.proofs.fit.is_apart.Given as goal

abbrev pub invariant-loop-x : goal.invariant-loop-x
invariant-loop-x l =
    (code.fresh l.passed l.n (drop l.x-index l.row) ≡ (below l.n l.row && apart l.row)) × (length l.passed ≡ 16)
