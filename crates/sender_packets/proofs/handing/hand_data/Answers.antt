-- `sender_packets::handing::hand_data` meets its contract: the segment lies in its slot, and its writer does not refuse it.
use Rattle.std.proofs.Common.{arith, refl}
use Rattle.channel.proofs.StandingLaws.{ringed}
use Rattle.sender_packets.proofs.LyingLaws.{lying, part_plain}
use Rattle.sender_packets.proofs.handing.hand_data.Goals as goal

pub overflow_add-c : goal.overflow_add-c
overflow_add-c c =
    let p = c.requires in
    let r = ringed c.args.c c.args.lens.now p.0.standing in
    omega (arith, r.place, r.ahead, r.most, p.1)

pub overflow_cast-number : goal.overflow_cast-number
overflow_cast-number c =
    let p = c.requires in
    let r = ringed c.args.c c.args.lens.now p.0.standing in
    omega (arith, r.ahead, r.most, p.1)

pub bounds-c-place : goal.bounds-c-place
bounds-c-place c =
    let a = c.args in
    let y = lying a.c a.mem.now a.lens.now c.requires.0 a.i c.requires.1 c.round-place.result c.slot_of-slot.result c.round-place.ensures c.slot_of-slot.ensures in
    omega (arith, y.place, y.few)

pub overflow_sub-c : goal.overflow_sub-c
overflow_sub-c c =
    let a = c.args in
    let y = lying a.c a.mem.now a.lens.now c.requires.0 a.i c.requires.1 c.round-place.result c.slot_of-slot.result c.round-place.ensures c.slot_of-slot.ensures in
    y.least

pub overflow_mul-from : goal.overflow_mul-from
overflow_mul-from c =
    let a = c.args in
    let y = lying a.c a.mem.now a.lens.now c.requires.0 a.i c.requires.1 c.round-place.result c.slot_of-slot.result c.round-place.ensures c.slot_of-slot.ensures in
    omega (arith, y.small)

pub offset_bounds-lens-slot : goal.offset_bounds-lens-slot
offset_bounds-lens-slot c =
    let a = c.args in
    let y = lying a.c a.mem.now a.lens.now c.requires.0 a.i c.requires.1 c.round-place.result c.slot_of-slot.result c.round-place.ensures c.slot_of-slot.ensures in
    omega (arith, y.slot, y.few)

pub bounds-lens-slot : goal.bounds-lens-slot
bounds-lens-slot c =
    let a = c.args in
    let y = lying a.c a.mem.now a.lens.now c.requires.0 a.i c.requires.1 c.round-place.result c.slot_of-slot.result c.round-place.ensures c.slot_of-slot.ensures in
    y.some

pub overflow_add-end : goal.overflow_add-end
overflow_add-end c =
    let a = c.args in
    let y = lying a.c a.mem.now a.lens.now c.requires.0 a.i c.requires.1 c.round-place.result c.slot_of-slot.result c.round-place.ensures c.slot_of-slot.ensures in
    omega (arith, y.small, y.short)

pub slice_bounds-send-end : goal.slice_bounds-send-end
slice_bounds-send-end c =
    let a = c.args in
    let y = lying a.c a.mem.now a.lens.now c.requires.0 a.i c.requires.1 c.round-place.result c.slot_of-slot.result c.round-place.ensures c.slot_of-slot.ensures in
    omega (arith, y.inside, y.short)

pub send-requires : goal.send-requires
send-requires c =
    let a = c.args in
    rw c.from.ensures (part_plain a.c a.mem.now a.lens.now c.requires.0 a.i c.round-place.result c.slot_of-slot.result c.requires.1 c.round-place.ensures c.slot_of-slot.ensures a.node _ c.outgoing-fields.result refl c.outgoing-fields.ensures)
