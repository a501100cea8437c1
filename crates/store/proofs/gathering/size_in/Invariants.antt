-- `store::gathering::size_in` meets its contract. The invariant: the lengths that were passed and those from here on make the sum, and each is below 65536.
use Prim.Native.Nat.{◌≤◌, ◌<◌, ◌-◌, ◌+◌, ◌*◌}
use mathlib.Core.Path.{◌≡◌}
use Rattle.channel.specs.Places.{slot_in}
use Rattle.store.specs.Store.{size_in}
use Rattle.store.proofs.gathering.size_in.Given as goal

abbrev pub invariant-loop-i : goal.invariant-loop-i
invariant-loop-i l = (l._i ≤ l.n) × (l.s < l.limits.slots) × (l.sum ≤ 65535 * l._i) × (l.sum + size_in (slot_in l.limits) l.lens l.limits.slots (l.n - l._i) l.s ≡ size_in (slot_in l.limits) l.lens l.limits.slots l.n l.from)
