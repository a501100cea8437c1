-- `moving::refiling::refile` meets its contract. The invariant: nothing but the other part has changed, and to file what is left there is to file the whole.
use Prim.Native.Nat.{ℕ, ◌-◌, ◌*◌, ◌<◌}
use mathlib.Core.Path.{◌≡◌, sym, ap, ◌∙◌, subst}
use mathlib.Core.List.{List}
use native.Mathlib.Omega.{arith}
use lib.ListN.{length, set}
use Rattle.slots.specs.Slots.{laid}
use Rattle.slots.specs.Units.{segment_cut}
use Rattle.slots.proofs.RingLaws.{round_lt}
use Rattle.slots.proofs.SlotLaws.{filed_sized}
use Rattle.slots.proofs.Units.{fits}
use Rattle.channel.specs.Pairs.{again}
use Rattle.channel.specs.Places.{slot_in}
use Rattle.channel.proofs.PlaceLaws.{slot_bound}
use Rattle.store.specs.Store.{filed_mem, filed_lens, filed_marks}
use Rattle.store.proofs.Laws.{filed_marks_none, filed_lens_none, filed_mem_none, turn_sized, turn_mem, turn_lens, turn_marks}
use Rattle.table.specs.Lent.{area_of}
use Rattle.table.proofs.Parts.{laid_own}
use Rattle.moving.specs.Refiling.{own_of, lens_of, unit_in}
use Rattle.moving.proofs.PartLaws.{turn_own, turn_filed, still_lies, still_there, still_holds, still_unit}
use Rattle.moving.proofs.refiling.refile.Goals as goal

pub loop-i-init : goal.loop-i-init
loop-i-init c =
    let a = c.args in
    let to = a.to in
    let mem = a.mem.now in
    let lens = a.lens.now in
    let w = again (unit_in a.u mem lens) in
    let e : a.count - 0 ≡ a.count = omega arith in (
      omega arith,
      omega arith,
      c.requires.lies.1.sized,
      sym (laid_own mem to.octet (area_of to.limits)),
      sym (laid_own lens to.slot to.limits.slots),
      ap (λ (k : ℕ). filed_marks to.limits.slots a.count a.marks k 0 a.from) e,
      ap (λ (k : ℕ). filed_mem (slot_in to.limits) to.limits.payload to.limits.slots w (own_of to mem) k 0 a.from) e,
      ap (λ (k : ℕ). filed_lens (slot_in to.limits) to.limits.payload to.limits.slots w (lens_of to lens) k 0 a.from) e,
    )

pub refile_part-requires : goal.refile_part-requires
refile_part-requires c =
    let at = c.loop-i in
    let a = c.args in
    let here = c.requires.lies in
    let pre = c.requires.le_payload in
    let mem = a.mem.now in
    let lens = a.lens.now in
    record {
      lies = (
        still_lies a.u a.to mem lens at.mem at.lens here.0 here.1 here.2 here.3 at.invariant.2 at.invariant.3 at.invariant.4,
        still_there a.u a.to mem lens at.mem at.lens here.0 here.1 here.2 here.3 at.invariant.2 at.invariant.3 at.invariant.4,
        still_holds a.u a.to mem lens at.mem at.lens here.0 here.1 here.2 here.3 at.invariant.2 at.invariant.3 at.invariant.4,
      );
      le_payload = (pre.0, omega (arith, c.slot_of-slot.ensures, slot_bound a.to.limits at.s at.invariant.1), subst (λ (k : ℕ). at.i < k) pre.2 c.loop-i-test.true);
    }

pub loop-i-preserved : goal.loop-i-preserved
loop-i-preserved c =
    let at = c.loop-i in
    let a = c.args in
    let to = a.to in
    let here = c.requires.lies in
    let mem = a.mem.now in
    let lens = a.lens.now in
    let w = again (unit_in a.u mem lens) in
    let taken = c.loop-i-test.true in
    let slot = c.slot_of-slot in
    let bound : slot.result < to.limits.slots = omega (arith, slot.ensures, slot_bound to.limits at.s at.invariant.1) in
    let cut = segment_cut to.limits.payload w at.i in
    let same = ap (λ (v : List ℕ). segment_cut to.limits.payload (again v) at.i) (still_unit a.u to mem lens at.mem at.lens here.0 here.1 here.2 here.3 at.invariant.2 at.invariant.3 at.invariant.4) in
    let p = laid (own_of to at.mem) (slot.result * to.limits.payload) cut in
    let q = set (lens_of to at.lens) slot.result (length cut) in
    let put_mem = c.refile_part.ensures.0 ∙ ap (λ (v : List ℕ). laid at.mem to.octet (laid (own_of to at.mem) (slot.result * to.limits.payload) v)) same in
    let put_lens = c.refile_part.ensures.1 ∙ ap (λ (v : List ℕ). laid at.lens to.slot (set (lens_of to at.lens) slot.result (length v))) same in
    let sized = filed_sized to.limits.slots to.limits.payload (own_of to at.mem) (lens_of to at.lens) slot.result cut at.invariant.2 bound (fits to.limits.payload w at.i) in
    let own = turn_own mem to.octet (area_of to.limits) here.1.octets at.mem at.invariant.3 at.invariant.2.exact c.refile_part.new.mem p put_mem sized.exact in
    let own_lens = turn_own lens to.slot to.limits.slots here.1.slots at.lens at.invariant.4 at.invariant.2.each c.refile_part.new.lens q put_lens sized.each in (
      omega arith,
      rw c.round-s.ensures (round_lt _ _ (omega arith)),
      turn_sized (slot_in to.limits) to.limits.slots to.limits.payload to.limits.slots w (own_of to at.mem) (lens_of to at.lens) a.count at.i at.s slot.result _ _ _ at.invariant.2 bound taken slot.ensures own own_lens c.round-s.ensures,
      turn_filed mem to.octet (area_of to.limits) here.1.octets at.mem at.invariant.3 at.invariant.2.exact c.refile_part.new.mem p put_mem sized.exact,
      turn_filed lens to.slot to.limits.slots here.1.slots at.lens at.invariant.4 at.invariant.2.each c.refile_part.new.lens q put_lens sized.each,
      turn_marks to.limits.slots a.count at.m a.count at.i at.s _ _ taken c.flags_of.ensures c.round-s.ensures ∙ at.invariant.5,
      turn_mem (slot_in to.limits) to.limits.slots to.limits.payload to.limits.slots w (own_of to at.mem) (lens_of to at.lens) a.count at.i at.s slot.result _ _ _ at.invariant.2 bound taken slot.ensures own own_lens c.round-s.ensures ∙ at.invariant.6,
      turn_lens (slot_in to.limits) to.limits.slots to.limits.payload to.limits.slots w (own_of to at.mem) (lens_of to at.lens) a.count at.i at.s slot.result _ _ _ at.invariant.2 bound taken slot.ensures own own_lens c.round-s.ensures ∙ at.invariant.7,
    )

pub returns : goal.returns
returns c =
    let at = c.loop-i in
    let a = c.args in
    let to = a.to in
    let mem = a.mem.now in
    let lens = a.lens.now in
    let w = again (unit_in a.u mem lens) in
    let left = c.loop-i-test.false in (
      sym (filed_marks_none to.limits.slots a.count at.m a.count at.i at.s left) ∙ at.invariant.5,
      at.invariant.3
          ∙ ap (laid mem to.octet) (sym (filed_mem_none (slot_in to.limits) to.limits.payload to.limits.slots w (own_of to at.mem) a.count at.i at.s left) ∙ at.invariant.6),
      at.invariant.4
          ∙ ap (laid lens to.slot) (sym (filed_lens_none (slot_in to.limits) to.limits.payload to.limits.slots w (lens_of to at.lens) a.count at.i at.s left) ∙ at.invariant.7),
    )
