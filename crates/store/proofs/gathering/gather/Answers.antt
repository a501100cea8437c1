-- `store::gathering::gather` meets its contract. The invariant: to lay what is left behind what is there is to lay the whole.
use Prim.Native.Nat.{ℕ, ◌≤◌, ◌<◌, ◌-◌, ◌+◌}
use mathlib.Core.Path.{◌≡◌, sym, ap, ◌∙◌}
use native.Mathlib.Omega.{arith}
use lib.ListN.{length, get_or}
use Rattle.slots.specs.Ring.{round_of}
use Rattle.slots.proofs.RingLaws.{round_lt, round_add, first_place}
use Rattle.slots.specs.Slots.{laid}
use Rattle.channel.specs.Places.{slot_in}
use Rattle.channel.proofs.PlaceLaws.{slot_bound}
use Rattle.store.specs.Store.{size_in, octets_in}
use Rattle.store.proofs.Laws.{place_fits, size_more, gather_length, gather_more, gather_none}
use Rattle.store.proofs.gathering.gather.Goals as goal

pub loop-i-init : goal.loop-i-init
loop-i-init c =
    let a = c.args in
    let e : a.n - 0 ≡ a.n = omega arith in (
      omega arith,
      omega arith,
      sym (first_place a.limits.slots a.from (omega arith)),
      omega arith,
      omega (arith, ap (λ (k : ℕ). size_in (slot_in a.limits) a.lens.now a.limits.slots k a.from) e),
      ap (λ (k : ℕ). laid a.out.now 0 (octets_in (slot_in a.limits) a.limits.payload a.mem.now a.lens.now a.limits.slots k a.from)) e,
    )

pub read_segment-requires : goal.read_segment-requires
read_segment-requires c =
    let at = c.loop-i in
    let a = c.args in
    let pre = c.requires in
    let taken = c.loop-i-test.true in
    let there = c.slot_of-slot.ensures in
    let size = ap (λ (k : ℕ). get_or a.lens.now k 0) there in
    let short = place_fits (slot_in a.limits) a.limits.payload a.lens.now a.limits.slots a.n a.from at._i at.s at.invariant.2 pre.each_fits taken in
    let more = size_more (slot_in a.limits) a.lens.now a.limits.slots a.n at._i at.s taken in
    record { sized = pre.sized; slot_lt_slots = (omega (arith, there, slot_bound a.limits at.s at.invariant.1), omega arith, omega arith) }

pub loop-i-preserved : goal.loop-i-preserved
loop-i-preserved c =
    let at = c.loop-i in
    let a = c.args in
    let pre = c.requires in
    let taken = c.loop-i-test.true in
    let slot = c.slot_of-slot in
    let laid-now = c.read_segment.ensures in
    let size = ap (λ (k : ℕ). get_or a.lens.now k 0) slot.ensures in
    let fits = place_fits (slot_in a.limits) a.limits.payload a.lens.now a.limits.slots a.n a.from at._i at.s at.invariant.2 pre.each_fits taken in
    let more = size_more (slot_in a.limits) a.lens.now a.limits.slots a.n at._i at.s taken in
    let bound : slot.result < a.limits.slots = omega (arith, slot.ensures, slot_bound a.limits at.s at.invariant.1) in
    let short : get_or a.lens.now slot.result 0 ≤ a.limits.payload = omega arith in
    let room : at.at + get_or a.lens.now slot.result 0 ≤ length at.out = omega arith in (
      omega arith,
      rw c.round-s.ensures (round_lt _ _ (omega arith)),
      c.round-s.ensures
          ∙ ap (λ (k : ℕ). round_of a.limits.slots (k + 1)) at.invariant.2
          ∙ round_add a.limits.slots a.from at._i 1 (omega arith),
      gather_length (slot_in a.limits) a.limits.slots a.limits.payload a.mem.now a.lens.now a.limits.slots a.n at._i at.s slot.result at.out at.at _ _ pre.sized bound taken slot.ensures short room laid-now c.round-s.ensures ∙ at.invariant.3,
      rw c.round-s.ensures (omega arith),
      gather_more (slot_in a.limits) a.limits.slots a.limits.payload a.mem.now a.lens.now a.limits.slots a.n at._i at.s slot.result at.out at.at _ _ pre.sized bound taken slot.ensures short room laid-now c.round-s.ensures ∙ at.invariant.5,
    )

pub returns : goal.returns
returns c =
    let at = c.loop-i in
    let a = c.args in
    sym (gather_none (slot_in a.limits) a.limits.payload a.mem.now a.lens.now a.limits.slots a.n at._i at.s at.out at.at c.loop-i-test.false) ∙ at.invariant.5
