-- `receiver_data::data::take_new` meets its contract: refused for want of room, or filed and accepted.
use Rattle.std.proofs.Common.{◌+◌, ◌<◌, arith}
use Rattle.slots.proofs.RingLaws.{round_lt}
use Rattle.channel.proofs.PlaceLaws.{slot_bound}
use Rattle.channel.proofs.StandingLaws.{ringed}
use Rattle.receiver_data.proofs.data.take_new.Goals as goal

pub file_segment-requires : goal.file_segment-requires
file_segment-requires c =
    let a = c.args in
    let r = ringed a.c a.lens.now c.requires.0.asked.standing in
    let room = c.if-slots-c.false in
    let on : c.round-place.result < a.c.limits.slots = rw c.round-place.ensures (round_lt a.c.limits.slots (a.c.window.place + a.d) (omega arith)) in
    record {
      sized = c.requires.0.asked.sized;
      slot_lt_slots = (omega (arith, c.slot_of-slot.ensures, slot_bound a.c.limits c.round-place.result on), c.requires.0.short);
    }
