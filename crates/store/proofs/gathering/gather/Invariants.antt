-- `store::gathering::gather` meets its contract. The invariant: to lay what is left behind what is there is to lay the whole.
use Prim.Native.Nat.{◌≤◌, ◌<◌, ◌-◌, ◌+◌}
use mathlib.Core.Path.{◌≡◌}
use lib.ListN.{length}
use Rattle.slots.specs.Ring.{round_of}
use Rattle.slots.specs.Slots.{laid}
use Rattle.channel.specs.Places.{slot_in}
use Rattle.store.specs.Store.{size_in, octets_in}
use Rattle.store.proofs.gathering.gather.Given as goal

abbrev pub invariant-loop-i : goal.invariant-loop-i
invariant-loop-i l =
    (l._i ≤ l.n)
    × (l.s < l.limits.slots)
    × (l.s ≡ round_of l.limits.slots (l.from + l._i))
    × (length l.out ≡ length l.initial.out)
    × (l.at + size_in (slot_in l.limits) l.lens l.limits.slots (l.n - l._i) l.s ≤ length l.initial.out)
    × (laid l.out l.at (octets_in (slot_in l.limits) l.limits.payload l.mem l.lens l.limits.slots (l.n - l._i) l.s) ≡ laid l.initial.out 0 (octets_in (slot_in l.limits) l.limits.payload l.mem l.lens l.limits.slots l.n l.from))
