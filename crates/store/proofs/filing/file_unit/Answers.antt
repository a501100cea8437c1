-- `store::filing::file_unit` meets its contract. The invariant: to file what is left is to file the whole.
use Prim.Native.Nat.{ℕ, ◌<◌}
use mathlib.Core.Path.{sym, ◌∙◌, subst}
use native.Mathlib.Omega.{arith}
use Rattle.slots.proofs.RingLaws.{round_lt}
use Rattle.channel.specs.Pairs.{filed}
use Rattle.channel.specs.Places.{slot_in}
use Rattle.channel.proofs.PlaceLaws.{slot_bound}
use Rattle.store.proofs.Laws.{filed_marks_none, filed_lens_none, filed_mem_none, turn_sized, turn_mem, turn_lens, turn_marks}
use Rattle.store.proofs.filing.file_unit.Goals as goal

pub file_part-requires : goal.file_part-requires
file_part-requires c =
    let at = c.loop-i in
    let a = c.args in
    let pre = c.requires in
    record {
      sized = at.invariant.2;
      le_payload = (pre.le_payload.0, omega (arith, c.slot_of-slot.ensures, slot_bound a.limits at.s at.invariant.1), subst (λ (k : ℕ). at.i < k) pre.le_payload.2 c.loop-i-test.true);
    }

pub loop-i-preserved : goal.loop-i-preserved
loop-i-preserved c =
    let at = c.loop-i in
    let a = c.args in
    let u = filed a.limits a.unit.now in
    let taken = c.loop-i-test.true in
    let slot = c.slot_of-slot in
    let bound : slot.result < a.limits.slots = omega (arith, slot.ensures, slot_bound a.limits at.s at.invariant.1) in
    let put = c.file_part.ensures in (
      omega arith,
      rw c.round-s.ensures (round_lt _ _ (omega arith)),
      turn_sized (slot_in a.limits) a.limits.slots a.limits.payload a.limits.slots u at.mem at.lens a.count at.i at.s slot.result _ _ _ at.invariant.2 bound taken slot.ensures put.0 put.1 c.round-s.ensures,
      turn_marks a.limits.slots a.count at.m a.count at.i at.s _ _ taken c.flags_of.ensures c.round-s.ensures ∙ at.invariant.3,
      turn_mem (slot_in a.limits) a.limits.slots a.limits.payload a.limits.slots u at.mem at.lens a.count at.i at.s slot.result _ _ _ at.invariant.2 bound taken slot.ensures put.0 put.1 c.round-s.ensures ∙ at.invariant.4,
      turn_lens (slot_in a.limits) a.limits.slots a.limits.payload a.limits.slots u at.mem at.lens a.count at.i at.s slot.result _ _ _ at.invariant.2 bound taken slot.ensures put.0 put.1 c.round-s.ensures ∙ at.invariant.5,
    )

pub returns : goal.returns
returns c =
    let at = c.loop-i in
    let a = c.args in
    let u = filed a.limits a.unit.now in
    let left = c.loop-i-test.false in (
      sym (filed_marks_none a.limits.slots a.count at.m a.count at.i at.s left) ∙ at.invariant.3,
      sym (filed_mem_none (slot_in a.limits) a.limits.payload a.limits.slots u at.mem a.count at.i at.s left) ∙ at.invariant.4,
      sym (filed_lens_none (slot_in a.limits) a.limits.payload a.limits.slots u at.lens a.count at.i at.s left) ∙ at.invariant.5,
    )
