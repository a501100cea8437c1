-- `moving::fetching::fetch` meets its contract. The invariant: to lay what is left behind what is there is to lay the whole.
use Prim.Native.Nat.{ℕ, ◌≤◌, ◌<◌, ◌-◌, ◌+◌}
use mathlib.Core.Path.{◌≡◌, sym, ap, ap₂, ◌∙◌}
use native.Mathlib.Omega.{arith}
use lib.ListN.{length, get_or, take, drop, length-take}
use Rattle.slots.specs.Ring.{round_of}
use Rattle.slots.proofs.RingLaws.{round_lt, round_add, first_place}
use Rattle.slots.specs.Slots.{laid, segment_in}
use Rattle.channel.specs.Places.{slot_in}
use Rattle.channel.proofs.PlaceLaws.{slot_bound}
use Rattle.store.specs.Store.{octets_in}
use Rattle.store.proofs.Laws.{place_fits}
use Rattle.moving.proofs.FetchLaws.{fetch_within, fetch_length, fetch_more, fetch_none}
use Rattle.moving.proofs.fetching.fetch.Goals as goal

pub loop-i-init : goal.loop-i-init
loop-i-init c =
    let a = c.args in
    let e : a.n - 0 ≡ a.n = omega arith in
    let whole : length a.out.now - 0 ≡ length a.out.now = omega arith in (
      omega arith,
      omega arith,
      sym (first_place a.limits.slots a.from (omega arith)),
      omega arith,
      omega arith,
      ap₂ (λ (j k : ℕ). laid a.out.now 0 (take j (drop a.start (octets_in (slot_in a.limits) a.limits.payload a.mem.now a.lens.now a.limits.slots k a.from)))) whole e,
    )

pub read_part-at-requires : goal.read_part-at-requires
read_part-at-requires c =
    let at = c.loop-i in
    let a = c.args in
    let pre = c.requires in
    let there = c.slot_of-slot.ensures in
    let size = ap (λ (k : ℕ). get_or a.lens.now k 0) there in
    let short = place_fits (slot_in a.limits) a.limits.payload a.lens.now a.limits.slots a.n a.from at._i at.s at.invariant.2 pre.each_fits c.loop-i-test.true in
    record {
      sized = pre.sized;
      slot_lt_slots = (omega (arith, there, slot_bound a.limits at.s at.invariant.1), omega (arith, size, short), omega (arith, at.invariant.3, at.invariant.4));
    }

pub overflow_add-at : goal.overflow_add-at
overflow_add-at c =
    let at = c.loop-i in
    let a = c.args in
    omega (arith, at.invariant.4, at.invariant.3, c.read_part-at.ensures.0, length-take (length at.out - at.at) (drop at.skip (segment_in a.limits.payload a.mem.now a.lens.now c.slot_of-slot.result)))

pub offset_bounds-lens-slot : goal.offset_bounds-lens-slot
offset_bounds-lens-slot c =
    let at = c.loop-i in
    let a = c.args in
    omega (arith, c.slot_of-slot.ensures, slot_bound a.limits at.s at.invariant.1)

pub bounds-lens-slot : goal.bounds-lens-slot
bounds-lens-slot c =
    let at = c.loop-i in
    let a = c.args in
    omega (arith, c.slot_of-slot.ensures, slot_bound a.limits at.s at.invariant.1)

pub loop-i-preserved : goal.loop-i-preserved
loop-i-preserved c =
    let at = c.loop-i in
    let a = c.args in
    let pre = c.requires in
    let taken = c.loop-i-test.true in
    let slot = c.slot_of-slot in
    let part = c.read_part-at.ensures in
    let rest = c.saturating_sub-skip.ensures in
    let size = ap (λ (k : ℕ). get_or a.lens.now k 0) slot.ensures in
    let fits = place_fits (slot_in a.limits) a.limits.payload a.lens.now a.limits.slots a.n a.from at._i at.s at.invariant.2 pre.each_fits taken in
    let bound : slot.result < a.limits.slots = omega (arith, slot.ensures, slot_bound a.limits at.s at.invariant.1) in
    let short : get_or a.lens.now slot.result 0 ≤ a.limits.payload = omega arith in
    let end = length a.out.now in
    let room : end ≤ length at.out = omega (arith, at.invariant.3) in
    let left = drop at.skip (segment_in a.limits.payload a.mem.now a.lens.now slot.result) in
    let many = part.0 ∙ ap (λ (k : ℕ). length (take (k - at.at) left)) at.invariant.3 in
    let laid_in = part.1 ∙ ap (λ (k : ℕ). laid at.out at.at (take (k - at.at) left)) at.invariant.3 in (
      omega arith,
      rw c.round-s.ensures (round_lt _ _ (omega arith)),
      c.round-s.ensures
          ∙ ap (λ (k : ℕ). round_of a.limits.slots (k + 1)) at.invariant.2
          ∙ round_add a.limits.slots a.from at._i 1 (omega arith),
      fetch_length (slot_in a.limits) a.limits.slots a.limits.payload a.mem.now a.lens.now a.limits.slots a.n at._i at.s slot.result at.skip end at.out at.at _ _ _ pre.sized bound taken slot.ensures short at.invariant.4 room many laid_in c.round-s.ensures ∙ at.invariant.3,
      fetch_within (slot_in a.limits) a.limits.slots a.limits.payload a.mem.now a.lens.now a.limits.slots a.n at._i at.s slot.result at.skip end at.out at.at _ _ _ pre.sized bound taken slot.ensures short at.invariant.4 room many laid_in c.round-s.ensures,
      fetch_more (slot_in a.limits) a.limits.slots a.limits.payload a.mem.now a.lens.now a.limits.slots a.n at._i at.s slot.result at.skip end at.out at.at _ _ _ pre.sized bound taken slot.ensures short at.invariant.4 room many laid_in c.round-s.ensures _ rest ∙ at.invariant.5,
    )

pub returns : goal.returns
returns c =
    let at = c.loop-i in
    let a = c.args in
    sym (fetch_none (slot_in a.limits) a.limits.payload a.mem.now a.lens.now a.limits.slots a.n at._i at.s at.skip (length a.out.now) at.out at.at c.loop-i-test.false) ∙ at.invariant.5
