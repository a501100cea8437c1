-- `store::filing::file_unit` meets its contract. The invariant: to file what is left is to file the whole.
use Prim.Native.Nat.{◌≤◌, ◌<◌, ◌-◌}
use mathlib.Core.Path.{◌≡◌}
use Rattle.slots.specs.Slots.{Sized}
use Rattle.channel.specs.Pairs.{filed}
use Rattle.channel.specs.Places.{slot_in}
use Rattle.store.specs.Store.{filed_mem, filed_lens, filed_marks}
use Rattle.store.proofs.filing.file_unit.Given as goal

abbrev pub invariant-loop-i : goal.invariant-loop-i
invariant-loop-i l =
    (l.i ≤ l.count)
    × (l.s < l.limits.slots)
    × Sized l.limits.slots l.limits.payload l.mem l.lens
    × (filed_marks l.limits.slots l.count l.m (l.count - l.i) l.i l.s ≡ filed_marks l.limits.slots l.count l.initial.m l.count 0 l.fn.from)
    × (filed_mem (slot_in l.limits) l.limits.payload l.limits.slots (filed l.limits l.unit) l.mem (l.count - l.i) l.i l.s ≡ filed_mem (slot_in l.limits) l.limits.payload l.limits.slots (filed l.limits l.unit) l.initial.mem l.count 0 l.fn.from)
    × (filed_lens (slot_in l.limits) l.limits.payload l.limits.slots (filed l.limits l.unit) l.lens (l.count - l.i) l.i l.s ≡ filed_lens (slot_in l.limits) l.limits.payload l.limits.slots (filed l.limits l.unit) l.initial.lens l.count 0 l.fn.from)
