-- `store::units::ends_in` meets its contract. The invariant: the ends that were passed and those from here on make all.
use Rattle.std.proofs.Common.{sym, ◌∙◌, arith}
use Rattle.slots.proofs.RingLaws.{round_lt}
use Rattle.store.proofs.Laws.{ends_here, ends_later, ends_none}
use Rattle.store.proofs.units.ends_in.Goals as goal
use Rattle.store.proofs.units.ends_in.Goals.{then-is_end, else-is_end}

pub loop-i-preserved : goal.loop-i-preserved
loop-i-preserved c =
    let at = c.loop-i in
    let a = c.args in
    let taken = c.loop-i-test.true in
    let mark = sym c.is_end.ensures in
    rw c.round-s.ensures (elim c.if-is_end.branch [
      | then-is_end w ↦ let one = ends_here a.marks a.slots a.n at._i at.s taken (mark ∙ w.if-is_end.true) in (omega arith, round_lt _ _ (omega arith), omega arith, omega arith)
      | else-is_end w ↦ let none = ends_later a.marks a.slots a.n at._i at.s taken (mark ∙ w.if-is_end.false) in (omega arith, round_lt _ _ (omega arith), omega arith, omega arith)
    ])

pub returns : goal.returns
returns c =
    let at = c.loop-i in
    let a = c.args in
    omega (arith, ends_none a.marks a.slots a.n at._i at.s c.loop-i-test.false)
