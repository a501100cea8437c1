-- `condition::standing::is_marked` meets its contract: what `back` and `run` promise.
use native.Mathlib.Omega.{arith}
use Rattle.channel.specs.Standing.{marked}
use Rattle.slots.proofs.RingLaws.{back_lt}
use Rattle.condition.proofs.standing.is_marked.Goals as goal

pub run-requires : goal.run-requires
run-requires c =
    let a = c.args in
    (rw c.back.ensures (back_lt a.slots a.w.place a.w.behind (omega arith)), omega arith)

pub returns : goal.returns
unfolding marked
returns c = rw (c.run.ensures, c.back.ensures)
