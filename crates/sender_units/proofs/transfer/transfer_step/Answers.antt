-- `sender_units::transfer::transfer_step` meets its contract: the question settles whether the unit is filed, and the calls file it.
use mathlib.Core.Path.{refl, sym, ap, ap₂, ◌∙◌}
use Prim.Native.Nat.{ℕ, ◌+◌}
use native.Mathlib.Omega.{arith}
use Rattle.channel.specs.declared.record.Channel.{Channel}
use lib.ListN.{length}
use Rattle.channel.specs.Steps.{answered, doing}
use Rattle.channel.specs.Pairs.{filed}
use Rattle.slots.proofs.RingLaws.{round_lt}
use Rattle.store.specs.Store.{filed_mem, filed_lens}
use Rattle.channel.proofs.StandingLaws.{ringed}
use Rattle.sender_units.proofs.UnitLaws.{would_filed, accepted_filed, filing, accepted_is, transfer_no, transfer_no_mem, transfer_no_lens, transfer_done, transfer_done_mem, transfer_done_lens, filed_is}
use Rattle.channel.specs.Places.{slot_of}
use Rattle.sender_units.proofs.transfer.transfer_step.Goals as goal

pub needed-requires : goal.needed-requires
needed-requires c = ringed c.args.c c.args.lens.now c.requires.standing

pub returns-in-Err : goal.returns-in-Err
returns-in-Err c =
    let a = c.args in
    let r = ringed a.c a.lens.now c.requires.standing in
    let u = filed a.c.limits a.unit.now in
    let would = would_filed a.c r a.unit.now _ _ (omega arith) c.filed_size.ensures in
    let left = accepted_filed a.c r a.unit.now _ _ (omega arith) c.filed_size.ensures ∙ c.in-Err.ensures.1 in (
      c.refused.ensures ∙ ap (answered a.c) (sym c.in-Err.ensures.0 ∙ would) ∙ sym (transfer_no a.c u a.mem.now a.lens.now left),
      sym (transfer_no_mem a.c u a.mem.now a.lens.now left),
      sym (transfer_no_lens a.c u a.mem.now a.lens.now left),
    )

pub overflow_add-c : goal.overflow_add-c
overflow_add-c c =
    let a = c.args in
    let r = ringed a.c a.lens.now c.requires.standing in
    omega (arith, r.place, r.ahead, r.most)

pub overflow_add-d : goal.overflow_add-d
overflow_add-d c =
    let a = c.args in
    let r = ringed a.c a.lens.now c.requires.standing in
    let t = filing a.c r a.unit.now _ _ (omega arith) c.filed_size.ensures c.in-Ok.count c.in-Ok.ensures.0 c.in-Ok.ensures.1 in
    omega (arith, (accepted_is a.c _ t.0).2, r.most, t.1)

pub file_unit-d-requires-clause-le_payload : goal.file_unit-d-requires-clause-le_payload
file_unit-d-requires-clause-le_payload c =
    let a = c.args in
    let r = ringed a.c a.lens.now c.requires.standing in
    let t = filing a.c r a.unit.now _ _ (omega arith) c.filed_size.ensures c.in-Ok.count c.in-Ok.ensures.0 c.in-Ok.ensures.1 in
    let f = round_lt a.c.limits.slots (a.c.window.place + a.c.window.ahead) (omega (arith, r.place, r.ahead)) in
    (r.octet, omega (arith, c.round-from.ensures), t.1, omega (arith, (accepted_is a.c _ t.0).2, t.1))

pub clear-d-requires : goal.clear-d-requires
clear-d-requires c =
    let a = c.args in
    let r = ringed a.c a.lens.now c.requires.standing in
    let f = round_lt a.c.limits.slots (a.c.window.place + a.c.window.ahead) (omega (arith, r.place, r.ahead)) in
    (omega (arith, c.round-from.ensures), r.most)

pub returns : goal.returns
returns c =
    let a = c.args in
    let r = ringed a.c a.lens.now c.requires.standing in
    let u = filed a.c.limits a.unit.now in
    let k = a.c in
    let t = filing k r a.unit.now _ _ (omega arith) c.filed_size.ensures c.in-Ok.count c.in-Ok.ensures.0 c.in-Ok.ensures.1 in
    let count = t.1 in
    let from = c.round-from.ensures in
    let f = c.file_unit-d.ensures in (
      c.done.ensures
          ∙ ap (λ (x : Channel). doing x 0)
          (filed_is k (length u) c.in-Ok.count c.round-from.result _ c.file_unit-d.result c.clear-d.result count from refl f.0 c.clear-d.ensures)
          ∙ sym (transfer_done k u a.mem.now a.lens.now t.0),
      f.1
          ∙ ap₂ (λ (n p : ℕ). filed_mem (slot_of k) k.limits.payload k.limits.slots u a.mem.now n 0 p) count from
          ∙ sym (transfer_done_mem k u a.mem.now a.lens.now t.0),
      f.2
          ∙ ap₂ (λ (n p : ℕ). filed_lens (slot_of k) k.limits.payload k.limits.slots u a.lens.now n 0 p) count from
          ∙ sym (transfer_done_lens k u a.mem.now a.lens.now t.0),
    )
