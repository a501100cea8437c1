-- `receiver_data::taking::take_step` meets its contract: a law of `take_step` and of `take_out` for each case.
use Rattle.std.proofs.Common.{ℕ, ◌<◌, ◌≤◌, length, sym, ap, ◌∙◌, subst, ap₂, arith}
use Rattle.slots.proofs.RingLaws.{back_lt}
use Rattle.slots.specs.Slots.{laid}
use Rattle.store.specs.Store.{unit_of}
use Rattle.channel.specs.declared.record.Channel.{Channel}
use Rattle.channel.specs.declared.answer.Refusal.TheVariants as refusal
use Rattle.channel.specs.Steps.{refusing, doing}
use Rattle.receiver_data.specs.Taking.{complete_in, unit_at, size_at, taken}
use Rattle.channel.specs.Flow.{telling}
use Rattle.channel.proofs.StandingLaws.{ringed}
use Rattle.receiver_data.proofs.TakeLaws.{each_fits, take_nothing, take_small, take_done, out_nothing, out_small, out_done, unit_is, size_is, octets_are, unit_behind}
use Rattle.receiver_data.proofs.taking.take_step.Goals as goal

pub returns-then-complete-eq0 : goal.returns-then-complete-eq0
returns-then-complete-eq0 c =
    let a = c.args in
    let r = ringed a.c a.lens.now c.requires.standing in
    (c.refused.ensures ∙ sym (take_nothing a.c a.lens.now (length a.out.now) c.if-complete-eq0.true), sym (out_nothing a.c a.lens.now a.mem.now a.out.now c.if-complete-eq0.true))

pub size_in-size-requires : goal.size_in-size-requires
size_in-size-requires c =
    let a = c.args in
    let r = ringed a.c a.lens.now c.requires.standing in
    let low = back_lt a.c.limits.slots a.c.window.place a.c.window.behind r.place in
    let unit = c.unit_of-n.ensures ∙ ap (λ (k : ℕ). unit_of a.c.marks a.c.limits.slots (complete_in a.c.window) k) c.back-from.ensures in
    (rw c.back-from.ensures low, omega (arith, c.requires.standing.count), omega (arith, unit, unit_behind a.c, r.behind, r.most))

pub returns-then-out-size : goal.returns-then-out-size
returns-then-out-size c =
    let a = c.args in
    let r = ringed a.c a.lens.now c.requires.standing in
    let from = c.back-from.result in
    let n = c.unit_of-n.result in
    let size = c.size_in-size.result in
    let ef = c.back-from.ensures in
    let en = c.unit_of-n.ensures in
    let es = c.size_in-size.ensures in
    let unit = unit_is a.c a.lens.now from n size ef en es in
    let all = size_is a.c a.lens.now from n size ef en es in
    let some = c.if-complete-eq0.false in
    let small : length a.out.now < size_at a.c a.lens.now = omega (arith, all, c.if-out-size.true) in
    (c.refused-then-out-size.ensures ∙ ap (λ (k : ℕ). refusing a.c (refusal.Small k)) all ∙ sym (take_small a.c a.lens.now (length a.out.now) some small), sym (out_small a.c a.lens.now a.mem.now a.out.now some small))

pub gather-requires : goal.gather-requires
gather-requires c =
    let a = c.args in
    let r = ringed a.c a.lens.now c.requires.standing in
    let low = back_lt a.c.limits.slots a.c.window.place a.c.window.behind r.place in
    let from = c.back-from.result in
    let n = c.unit_of-n.result in
    let size = c.size_in-size.result in
    let ef = c.back-from.ensures in
    let en = c.unit_of-n.ensures in
    let es = c.size_in-size.ensures in
    let unit = unit_is a.c a.lens.now from n size ef en es in
    let all = size_is a.c a.lens.now from n size ef en es in
    let few = unit_behind a.c in
    record {
      sized = c.requires.sized;
      from_lt_slots = (rw ef low, omega (arith, unit, few, r.behind), omega (arith, es, c.if-out-size.false));
      each_fits = rw (unit, ef) (each_fits a.c a.lens.now (unit_at a.c) c.requires.standing (omega (arith, few)));
    }

pub drop_oldest-d-requires : goal.drop_oldest-d-requires
drop_oldest-d-requires c =
    let a = c.args in
    let r = ringed a.c a.lens.now c.requires.standing in
    let from = c.back-from.result in
    let n = c.unit_of-n.result in
    let size = c.size_in-size.result in
    let ef = c.back-from.ensures in
    let en = c.unit_of-n.ensures in
    let es = c.size_in-size.ensures in
    let unit = unit_is a.c a.lens.now from n size ef en es in
    let all = size_is a.c a.lens.now from n size ef en es in
    (r, omega (arith, unit, unit_behind a.c), ef)

pub tell_in-requires : goal.tell_in-requires
tell_in-requires c =
    let a = c.args in
    let r = ringed a.c a.lens.now c.requires.standing in
    subst (λ (x : Channel). x.limits.window ≤ 128) (sym c.drop_oldest-d.ensures) r.window

pub returns : goal.returns
returns c =
    let a = c.args in
    let r = ringed a.c a.lens.now c.requires.standing in
    let from = c.back-from.result in
    let n = c.unit_of-n.result in
    let size = c.size_in-size.result in
    let ef = c.back-from.ensures in
    let en = c.unit_of-n.ensures in
    let es = c.size_in-size.ensures in
    let unit = unit_is a.c a.lens.now from n size ef en es in
    let all = size_is a.c a.lens.now from n size ef en es in
    let some = c.if-complete-eq0.false in
    let room : size_at a.c a.lens.now ≤ length a.out.now = omega (arith, all, c.if-out-size.false) in
    let told = c.tell_in.ensures ∙ ap (telling a.c.window) c.drop_oldest-d.ensures in (
      c.done.ensures ∙ ap (λ (x : Channel). doing x size) told ∙ ap₂ (λ (k l : ℕ). doing (taken a.c k) l) unit all ∙ sym (take_done a.c a.lens.now (length a.out.now) some room),
      c.gather.ensures ∙ ap (laid a.out.now 0) (octets_are a.c a.lens.now from n size ef en es a.mem.now) ∙ sym (out_done a.c a.lens.now a.mem.now a.out.now some room),
    )
