-- `sender_acks::acks::advance` meets its contract: the calls give the run, the units confirmed, the place, the window and the marks.
use Rattle.std.proofs.Common.{arith}
use Rattle.slots.proofs.RingLaws.{run_le}
use Rattle.store.proofs.Laws.{last_le}
use Rattle.sender_acks.proofs.AckLaws.{advanced_is}
use Rattle.sender_acks.proofs.acks.advance.Goals as goal

pub overflow_add-c : goal.overflow_add-c
overflow_add-c c =
    let a = c.args.c in
    let p = c.requires in
    let b = run_le a.acked a.limits.slots a.window.flight a.window.place in
    omega (arith, p.1, p.0.most, p.0.place, p.0.flight, p.0.ahead)

pub freed_marks-requires : goal.freed_marks-requires
freed_marks-requires c =
    let a = c.args.c in
    let p = c.requires in
    let b = run_le a.acked a.limits.slots a.window.flight a.window.place in
    let d = last_le a.marks a.limits.slots c.args.n a.window.place in
    (p.0, omega (arith, p.1, p.0.flight, c.last_end_in-done.ensures))

pub moved_window-requires : goal.moved_window-requires
moved_window-requires c =
    let a = c.args.c in
    let p = c.requires in
    let b = run_le a.acked a.limits.slots a.window.flight a.window.place in
    let d = last_le a.marks a.limits.slots c.args.n a.window.place in
    (omega (arith, p.1), p.0.flight, omega (arith, c.last_end_in-done.ensures), omega (arith, p.0.behind, p.0.most), omega (arith, p.0.ahead, p.0.most))

pub returns : goal.returns
returns c =
    advanced_is c.args.c c.args.n c.last_end_in-done.result c.round-place.result c.moved_window.result c.freed_marks.result c.requires.1
    c.last_end_in-done.ensures
    c.round-place.ensures
    c.moved_window.ensures
    c.freed_marks.ensures
