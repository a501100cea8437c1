-- `store::units::unit_of` meets its contract. The invariant: what was passed and the unit from here on make the whole.
use Rattle.std.proofs.Common.{◌∙◌, sym, arith}
use Rattle.slots.proofs.RingLaws.{round_lt}
use Rattle.store.proofs.Laws.{unit_stop, unit_more, unit_none}
use Rattle.store.proofs.units.unit_of.Goals as goal

pub returns-then-is_end : goal.returns-then-is_end
returns-then-is_end c =
    let at = c.loop-i in
    let a = c.args in
    omega (arith, unit_stop a.marks a.slots a.n at.i at.s c.loop-i-test.true (sym c.is_end.ensures ∙ c.if-is_end.true))

pub loop-i-preserved : goal.loop-i-preserved
loop-i-preserved c =
    let at = c.loop-i in
    let a = c.args in
    let more = unit_more a.marks a.slots a.n at.i at.s c.loop-i-test.true (sym c.is_end.ensures ∙ c.if-is_end.false) in
    (omega arith, rw c.round-s.ensures (round_lt _ _ (omega arith)), rw c.round-s.ensures (omega arith))

pub returns : goal.returns
returns c =
    let at = c.loop-i in
    let a = c.args in
    omega (arith, unit_none a.marks a.slots a.n at.i at.s c.loop-i-test.false)
