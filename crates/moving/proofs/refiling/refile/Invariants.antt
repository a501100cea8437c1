-- `moving::refiling::refile` meets its contract. The invariant: nothing but the other part has changed, and to file what is left there is to file the whole.
use Prim.Native.Nat.{◌≤◌, ◌<◌, ◌-◌}
use mathlib.Core.Path.{◌≡◌}
use Rattle.slots.specs.Slots.{Sized, laid}
use Rattle.channel.specs.Pairs.{again}
use Rattle.channel.specs.Places.{slot_in}
use Rattle.store.specs.Store.{filed_mem, filed_lens, filed_marks}
use Rattle.moving.specs.Refiling.{own_of, lens_of, unit_in}
use Rattle.moving.proofs.refiling.refile.Given as goal

abbrev pub invariant-loop-i : goal.invariant-loop-i
invariant-loop-i l =
    (l.i ≤ l.count)
    × (l.s < l.to.limits.slots)
    × Sized l.to.limits.slots l.to.limits.payload (own_of l.to l.mem) (lens_of l.to l.lens)
    × (l.mem ≡ laid l.initial.mem l.to.octet (own_of l.to l.mem))
    × (l.lens ≡ laid l.initial.lens l.to.slot (lens_of l.to l.lens))
    × (filed_marks l.to.limits.slots l.count l.m (l.count - l.i) l.i l.s ≡ filed_marks l.to.limits.slots l.count l.initial.m l.count 0 l.fn.from)
    × (filed_mem (slot_in l.to.limits) l.to.limits.payload l.to.limits.slots (again (unit_in l.u l.initial.mem l.initial.lens)) (own_of l.to l.mem) (l.count - l.i) l.i l.s ≡ filed_mem (slot_in l.to.limits) l.to.limits.payload l.to.limits.slots (again (unit_in l.u l.initial.mem l.initial.lens)) (own_of l.to l.initial.mem) l.count 0 l.fn.from)
    × (filed_lens (slot_in l.to.limits) l.to.limits.payload l.to.limits.slots (again (unit_in l.u l.initial.mem l.initial.lens)) (lens_of l.to l.lens) (l.count - l.i) l.i l.s ≡ filed_lens (slot_in l.to.limits) l.to.limits.payload l.to.limits.slots (again (unit_in l.u l.initial.mem l.initial.lens)) (lens_of l.to l.initial.lens) l.count 0 l.fn.from)
