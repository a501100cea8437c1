-- `sender_acks::acks::is_awaited` meets its contract: what is looked at lies on the ring.
use Rattle.std.proofs.Common.{◌+◌, arith}
use Rattle.slots.proofs.RingLaws.{round_lt}
use Rattle.sender_acks.proofs.acks.is_awaited.Goals as goal

pub bounds-c-round : goal.bounds-c-round
bounds-c-round c =
    let a = c.args in
    let l = round_lt a.c.now.limits.slots (a.c.now.window.place + a.d) (omega (arith, c.requires.place, c.requires.flight, c.requires.ahead, c.if-d-c.true)) in
    omega (arith, c.round.ensures, c.requires.most)
