-- `sender_acks::acks::freed_marks` meets its contract: a law of `freed_marks` for each case.
use Rattle.slots.proofs.RingLaws.{back_lt}
use Rattle.sender_acks.proofs.acks.freed_marks.Goals as goal

pub clear-requires : goal.clear-requires
clear-requires c =
    let a = c.args in
    let p = c.requires.0 in
    rw c.back-from.ensures (back_lt a.c.now.limits.slots a.c.now.window.place a.c.now.window.behind p.place, p.most)
