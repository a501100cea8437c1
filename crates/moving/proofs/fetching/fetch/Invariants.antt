-- `moving::fetching::fetch` meets its contract. The invariant: to lay what is left behind what is there is to lay the whole.
use Prim.Native.Nat.{◌≤◌, ◌<◌, ◌-◌, ◌+◌}
use mathlib.Core.Path.{◌≡◌}
use lib.ListN.{length, take, drop}
use Rattle.slots.specs.Ring.{round_of}
use Rattle.slots.specs.Slots.{laid}
use Rattle.channel.specs.Places.{slot_in}
use Rattle.store.specs.Store.{octets_in}
use Rattle.moving.proofs.fetching.fetch.Given as goal

abbrev pub invariant-loop-i : goal.invariant-loop-i
invariant-loop-i l =
    (l._i ≤ l.n)
    × (l.s < l.limits.slots)
    × (l.s ≡ round_of l.limits.slots (l.from + l._i))
    × (length l.out ≡ length l.initial.out)
    × (l.at ≤ length l.initial.out)
    × (laid l.out l.at (take (length l.initial.out - l.at) (drop l.skip (octets_in (slot_in l.limits) l.limits.payload l.mem l.lens l.limits.slots (l.n - l._i) l.s))) ≡ laid l.initial.out 0 (take (length l.initial.out) (drop l.start (octets_in (slot_in l.limits) l.limits.payload l.mem l.lens l.limits.slots l.n l.from))))
