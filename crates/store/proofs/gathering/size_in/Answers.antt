-- `store::gathering::size_in` meets its contract. The invariant: the lengths that were passed and those from here on make the sum, and each is below 65536.
use Prim.Native.Nat.{ℕ}
use mathlib.Core.Path.{ap}
use native.Mathlib.Omega.{arith}
use lib.ListN.{get_or}
use Rattle.slots.proofs.RingLaws.{round_lt}
use Rattle.channel.specs.Places.{slot_in}
use Rattle.store.proofs.Laws.{size_more, size_none}
use Rattle.store.proofs.gathering.size_in.Goals as goal

pub loop-i-preserved : goal.loop-i-preserved
loop-i-preserved c =
    let at = c.loop-i in
    let a = c.args in
    let slot = c.slot_of in
    let small = c.type_inv.lens slot.result in
    let there = ap (λ (k : ℕ). get_or a.lens.now k 0) slot.ensures in
    let more = size_more (slot_in a.limits) a.lens.now a.limits.slots a.n at._i at.s c.loop-i-test.true in
    (omega arith, rw c.round-s.ensures (round_lt _ _ (omega arith)), omega arith, rw c.round-s.ensures (omega arith))

pub returns : goal.returns
returns c =
    let at = c.loop-i in
    let a = c.args in
    omega (arith, size_none (slot_in a.limits) a.lens.now a.limits.slots a.n at._i at.s c.loop-i-test.false)
