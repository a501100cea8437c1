-- `lines::ranks::leave_from` meets its contract: the part of the rank is lent.
use mathlib.Core.Path.{ap, ◌∙◌}
use native.Mathlib.Omega.{arith}
use mathlib.Core.List.{List}
use Prim.Native.Nat.{ℕ}
use Rattle.lines.specs.Lines.{without, line_octets, line_in, line_at, part_at}
use Rattle.lines.proofs.OctetLaws as octets
use Rattle.lines.proofs.FitLaws as fit
use Rattle.lines.proofs.CodeLaws as code
use Rattle.lines.proofs.ranks.leave_from.Goals as goal

pub leave-requires : goal.leave-requires
leave-requires c =
    code.lent_fit c.args.lines.now c.args.rank c.requires.0 c.requires.1

pub returns : goal.returns
returns c =
    let a = c.args in
    let l = line_at a.rank a.lines.now in
    let e = c.leave.ensures ∙ ap (λ (t : List ℕ). line_octets (without a.i (line_in t))) (code.lent a.lines.now a.rank) in
    code.put_back a.lines.now a.rank _ (without a.i l) e
    (omega (arith, octets.fewer a.i l, fit.short 16 (part_at a.rank a.lines.now) (c.requires.0.each a.rank c.requires.1)))
