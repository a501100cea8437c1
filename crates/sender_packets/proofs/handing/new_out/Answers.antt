-- `sender_packets::handing::new_out` meets its contract: the calls give the place and the timers.
use Rattle.std.proofs.Common.{◌+◌, arith}
use Rattle.slots.proofs.RingLaws.{round_lt}
use Rattle.sender_packets.proofs.handing.new_out.Goals as goal

pub start_timer-d-requires : goal.start_timer-d-requires
start_timer-d-requires c =
    let p = c.requires in
    let f = round_lt c.args.c.limits.slots (c.args.c.window.place + c.args.c.window.flight) (omega (arith, p.0.place, p.0.ahead, p.0.flight, p.1)) in
    omega (arith, c.round-place.ensures, p.0.most)

pub bounds-d-place : goal.bounds-d-place
bounds-d-place c =
    let p = c.requires in
    let k = c.args.c in
    let f = round_lt k.limits.slots (k.window.place + k.window.flight) (omega (arith, p.0.place, p.0.ahead, p.0.flight, p.1)) in
    omega (arith, c.round-place.ensures, p.0.most)
