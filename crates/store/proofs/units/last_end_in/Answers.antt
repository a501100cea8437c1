-- `store::units::last_end_in` meets its contract. The invariant: the last end passed, unless there is one from here on, is the last of all.
use Rattle.std.proofs.Common.{sym, ◌∙◌, arith}
use Rattle.slots.proofs.RingLaws.{round_lt}
use Rattle.store.proofs.Laws.{last_here, last_later, last_end}
use Rattle.store.proofs.units.last_end_in.Goals as goal
use Rattle.store.proofs.units.last_end_in.Goals.{then-is_end, else-is_end}

pub loop-i-preserved : goal.loop-i-preserved
loop-i-preserved c =
    let at = c.loop-i in
    let a = c.args in
    let taken = c.loop-i-test.true in
    let mark = sym c.is_end.ensures in
    rw c.round-s.ensures (elim c.if-is_end.branch [
      | then-is_end w ↦ let here = last_here a.marks a.slots a.n at.i at.s at.last taken (mark ∙ w.if-is_end.true) in (omega arith, round_lt _ _ (omega arith), rw w.last-is (sym here ∙ at.invariant.2))
      | else-is_end w ↦ let later = last_later a.marks a.slots a.n at.i at.s at.last taken (mark ∙ w.if-is_end.false) in (omega arith, round_lt _ _ (omega arith), rw w.last-is (sym later ∙ at.invariant.2))
    ])

pub returns : goal.returns
returns c =
    let at = c.loop-i in
    let a = c.args in
    sym (last_end a.marks a.slots a.n at.i at.s at.last c.loop-i-test.false) ∙ at.invariant.2
