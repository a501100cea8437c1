-- `sender_packets::handing::again_out` meets its contract: the calls give the place and the timers.
use Rattle.std.proofs.Common.{◌+◌, arith}
use Rattle.slots.proofs.RingLaws.{round_lt}
use Rattle.sender_packets.proofs.handing.again_out.Goals as goal

pub offset_bounds-c-place : goal.offset_bounds-c-place
offset_bounds-c-place c =
    let p = c.requires in
    let f = round_lt c.args.c.limits.slots (c.args.c.window.place + c.args.i) (omega (arith, p.0.place, p.0.ahead, p.0.flight, p.2)) in
    omega (arith, c.round-place.ensures, p.0.most)

pub bounds-c-place : goal.bounds-c-place
bounds-c-place c =
    let p = c.requires in
    let f = round_lt c.args.c.limits.slots (c.args.c.window.place + c.args.i) (omega (arith, p.0.place, p.0.ahead, p.0.flight, p.2)) in
    omega (arith, c.round-place.ensures, p.0.most)

pub start_timer-requires : goal.start_timer-requires
start_timer-requires c =
    let p = c.requires in
    let f = round_lt c.args.c.limits.slots (c.args.c.window.place + c.args.i) (omega (arith, p.0.place, p.0.ahead, p.0.flight, p.2)) in
    omega (arith, c.round-place.ensures, p.0.most)
