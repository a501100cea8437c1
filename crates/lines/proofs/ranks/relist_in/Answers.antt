-- `lines::ranks::relist_in` meets its contract: the part of the rank is lent.
use mathlib.Core.Path.{ap, ◌∙◌}
use mathlib.Core.List.{List}
use Prim.Native.Nat.{ℕ}
use Rattle.lines.specs.Lines.{relisted, line_octets, line_in, line_at}
use Rattle.lines.proofs.FitLaws as fit
use Rattle.lines.proofs.CodeLaws as code
use Rattle.lines.proofs.ranks.relist_in.Goals as goal

pub relist_line-requires-clause-fit_line : goal.relist_line-requires-clause-fit_line
relist_line-requires-clause-fit_line c = code.lent_fit c.args.lines.now c.args.rank c.requires.0 c.requires.1

pub returns : goal.returns
returns c =
    let a = c.args in
    let e = c.relist_line.ensures ∙ ap (λ (t : List ℕ). line_octets (relisted a.i a.ready (line_in t))) (code.lent a.lines.now a.rank) in
    code.put_back a.lines.now a.rank _ (relisted a.i a.ready (line_at a.rank a.lines.now)) e
    (fit.short_then 16 a.lines.now c.requires.0 a.rank c.requires.1 a.i a.ready c.requires.2)
