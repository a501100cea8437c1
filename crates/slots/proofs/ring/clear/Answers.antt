-- `slots::ring::clear` meets its contract. The invariant: to clear what is left is to clear the whole.
use mathlib.Core.Path.{sym, ◌∙◌}
use native.Mathlib.Omega.{arith}
use Rattle.slots.proofs.RingLaws.{round_lt, clear_more, clear_none}
use Rattle.slots.proofs.ring.clear.Goals as goal

pub loop-preserved : goal.loop-preserved
loop-preserved c =
    let at = c.loop in
    let a = c.args in
    let more = clear_more at.marks a.slots a.n at.counter at.s c.loop-test.true in
    (rw c.round-s.ensures (round_lt _ _ (omega arith)), rw c.round-s.ensures (sym more ∙ at.invariant.1))

pub returns : goal.returns
returns c =
    let at = c.loop in
    let a = c.args in
    sym (clear_none at.marks a.slots a.n at.counter at.s c.loop-test.false) ∙ at.invariant.1
