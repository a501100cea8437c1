-- `condition::standing::slots_fit` meets its contract: one slot more, and at the end none.
use Rattle.std.proofs.Common.{ℕ, ◌-◌, ◌+◌, Bool, ◌&&◌, get_or, sym, ap, ◌∙◌, arith}
use mathlib.Core.Bool.{and_assoc, and-true}
use native.Mathlib.Numerals.{unary_clauses}
use Rattle.channel.specs.Places.{slot_in}
use Rattle.channel.proofs.PlaceLaws.{slot_bound}
use Rattle.channel.specs.Standing.{slot_fit, slots_fit}
use Rattle.channel.proofs.StandingLaws.{slots_next, slots_none}
use Rattle.condition.proofs.standing.slots_fit.Goals as goal

pub offset_bounds-lens-slot_of : goal.offset_bounds-lens-slot_of
offset_bounds-lens-slot_of c = omega (arith, c.slot_of.ensures, slot_bound c.args.limits c.loop-i.i c.loop-i-test.true)

pub bounds-lens-slot_of : goal.bounds-lens-slot_of
bounds-lens-slot_of c = omega (arith, c.slot_of.ensures, slot_bound c.args.limits c.loop-i.i c.loop-i-test.true)

pub loop-i-init : goal.loop-i-init
loop-i-init c = simp unary_clauses

pub loop-i-preserved : goal.loop-i-preserved
loop-i-preserved c =
    let a = c.args in
    let at = c.loop-i in
    let mark = get_or a.marks.now at.i 0 in
    let len = ap (λ (k : ℕ). get_or a.lens.now k 0) c.slot_of.ensures in
    let here = c.slot_fits-fit.ensures ∙ ap (slot_fit a.sending a.limits.payload mark) len in
    let rest = slots_fit (slot_in a.limits) a.sending a.limits.payload a.marks.now a.lens.now (a.limits.slots - (at.i + 1)) (at.i + 1) in
    let next = slots_next (slot_in a.limits) a.sending a.limits.payload a.marks.now a.lens.now a.limits.slots at.i c.loop-i-test.true in
    ap (λ (b : Bool). (at.fit && b) && rest) here
    ∙ and_assoc at.fit (slot_fit a.sending a.limits.payload mark (get_or a.lens.now (slot_in a.limits at.i) 0)) rest
    ∙ ap (λ (b : Bool). at.fit && b) (sym next)
    ∙ at.invariant

pub returns : goal.returns
returns c =
    let a = c.args in
    let none = slots_none (slot_in a.limits) a.sending a.limits.payload a.marks.now a.lens.now a.limits.slots c.loop-i.i c.loop-i-test.false in
    sym (ap (λ (b : Bool). c.loop-i.fit && b) none ∙ and-true c.loop-i.fit) ∙ c.loop-i.invariant
