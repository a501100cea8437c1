-- `lines::line::leave` meets its contract: where it stands it is cut out, and else nothing changes.
use mathlib.Core.Path.{sym, ap, ap₂, ◌∙◌}
use mathlib.Core.List.{List}
use Prim.Native.Nat.{ℕ, ◌-◌}
use native.Mathlib.Omega.{arith}
use lib.ListN.{set}
use Rattle.lines.specs.Lines.{line_octets, line_in}
use Rattle.lines.proofs.LineLaws as line
use Rattle.lines.proofs.OctetLaws as octets
use Rattle.lines.proofs.FitLaws as fit
use Rattle.lines.proofs.CodeLaws as code
use Rattle.lines.proofs.line.leave.Goals as goal

pub place-requires : goal.place-requires
place-requires c = fit.size_of 16 c.args.line.now c.requires

pub bounds-line-0 : goal.bounds-line-0
bounds-line-0 c =
    let f = fit.counted c.args.line.now c.requires in
    omega arith

pub returns-in-Some : goal.returns-in-Some
returns-in-Some c =
    let o = c.args.line.now in
    let l = line_in o in
    let f = fit.counted o c.requires in
    let w = code.found c.args.i l c.in-Some.before c.in-Some.ensures in
    ap₂ (λ (m : List ℕ) (n : ℕ). set (set m 16 0) 0 (n - 1)) c.copy_within.ensures.after f.count
    ∙ octets.closed_up c.args.i o l c.in-Some.before c.requires.written f.few c.requires.line.once w.0 w.1

pub returns-in_default : goal.returns-in_default
returns-in_default c =
    let l = line_in c.args.line.now in
    let s = code.not_found c.args.i l c.in_default.ensures in
    c.requires.written ∙ ap line_octets (sym (line.without_none c.args.i l s))
