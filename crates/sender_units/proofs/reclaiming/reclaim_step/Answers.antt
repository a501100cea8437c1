-- `sender_units::reclaiming::reclaim_step` meets its contract: the unit is within what is held, and its segments fit.
use Prim.Native.Nat.{◌≤◌}
use native.Mathlib.Omega.{arith}
use Rattle.store.proofs.Laws.{unit_le}
use Rattle.channel.proofs.StandingLaws.{ringed}
use Rattle.sender_units.proofs.UnitLaws.{unit_fits}
use Rattle.sender_units.proofs.reclaiming.reclaim_step.Goals as goal

pub unit_of-n-requires : goal.unit_of-n-requires
unit_of-n-requires c =
    let p = c.requires in
    let r = ringed c.args.c c.args.lens.now p.standing in
    (r.place, r.most)

pub size_in-size-requires : goal.size_in-size-requires
size_in-size-requires c =
    let p = c.requires in
    let r = ringed c.args.c c.args.lens.now p.standing in
    (r.place, omega (arith, p.standing.count), omega (arith, c.unit_of-n.ensures, unit_le c.args.c.marks c.args.c.limits.slots c.args.c.window.ahead c.args.c.window.place, r.ahead, r.most))

pub gather-requires : goal.gather-requires
gather-requires c =
    let p = c.requires in
    let r = ringed c.args.c c.args.lens.now p.standing in
    let n = c.unit_of-n.result in
    let b : n ≤ c.args.c.window.ahead = omega (arith, c.unit_of-n.ensures, unit_le c.args.c.marks c.args.c.limits.slots c.args.c.window.ahead c.args.c.window.place) in
    record {
      sized = p.sized;
      from_lt_slots = (r.place, omega (arith, r.ahead), omega (arith, c.size_in-size.ensures, c.if-out-size.false));
      each_fits = unit_fits c.args.c c.args.mem.now c.args.lens.now p n b;
    }

pub drop_oldest-requires : goal.drop_oldest-requires
drop_oldest-requires c =
    let p = c.requires in
    let r = ringed c.args.c c.args.lens.now p.standing in
    (r, omega (arith, c.unit_of-n.ensures, unit_le c.args.c.marks c.args.c.limits.slots c.args.c.window.ahead c.args.c.window.place))
