-- `lines::line::join` meets its contract: where it does not stand there is room, and it goes to the tail.
use mathlib.Core.Path.{sym, ap, ◌∙◌}
use mathlib.Core.Bool.{true, false}
use mathlib.Core.Path.{◌≡◌}
use native.Mathlib.Omega.{arith}
use lib.ListN.{length-set}
use Rattle.std.specs.Prelude.{is_some}
use Rattle.lines.specs.Lines.{stands, line_octets, line_in}
use Rattle.lines.proofs.LineLaws.{joined_stays}
use Rattle.lines.proofs.FitLaws as fit
use Rattle.lines.proofs.CodeLaws as code
use Rattle.lines.proofs.line.join.Goals as goal

pub place-requires : goal.place-requires
place-requires c = fit.size_of 16 c.args.line.now c.requires.fit_line

pub returns-then-is_some : goal.returns-then-is_some
returns-then-is_some c =
    let l = line_in c.args.line.now in
    let s : stands c.args.i l ≡ true = sym (c.is_some.ensures ∙ ap is_some c.place.ensures ∙ code.is_found c.args.i l) ∙ c.if-is_some.true in
    c.requires.fit_line.written ∙ ap line_octets (sym (joined_stays c.args.i l s))

pub bounds-line-0 : goal.bounds-line-0
bounds-line-0 c =
    let f = fit.counted c.args.line.now c.requires.fit_line in
    omega arith

pub overflow_add-tail : goal.overflow_add-tail
overflow_add-tail c =
    let l = line_in c.args.line.now in
    let s : stands c.args.i l ≡ false = sym (c.is_some.ensures ∙ ap is_some c.place.ensures ∙ code.is_found c.args.i l) ∙ c.if-is_some.false in
    let r = code.room_for c.args.line.now c.requires.fit_line c.args.i c.requires.i_bound s in
    omega arith

pub bounds-line-tail : goal.bounds-line-tail
bounds-line-tail c =
    let l = line_in c.args.line.now in
    let s : stands c.args.i l ≡ false = sym (c.is_some.ensures ∙ ap is_some c.place.ensures ∙ code.is_found c.args.i l) ∙ c.if-is_some.false in
    let f = fit.counted c.args.line.now c.requires.fit_line in
    let r = code.room_for c.args.line.now c.requires.fit_line c.args.i c.requires.i_bound s in
    omega arith

pub bounds-line-0-2 : goal.bounds-line-0-2
bounds-line-0-2 c =
    let f = fit.counted c.args.line.now c.requires.fit_line in
    simp length-set (omega arith)

pub returns : goal.returns
returns c =
    let l = line_in c.args.line.now in
    let s : stands c.args.i l ≡ false = sym (c.is_some.ensures ∙ ap is_some c.place.ensures ∙ code.is_found c.args.i l) ∙ c.if-is_some.false in
    code.at_tail c.args.line.now c.requires.fit_line c.args.i c.requires.i_bound s
