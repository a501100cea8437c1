-- `store::units::ends_in` meets its contract. The invariant: the ends that were passed and those from here on make all.
use Prim.Native.Nat.{◌≤◌, ◌<◌, ◌-◌, ◌+◌}
use mathlib.Core.Path.{◌≡◌}
use Rattle.store.specs.Store.{ends_in}
use Rattle.store.proofs.units.ends_in.Given as goal

abbrev pub invariant-loop-i : goal.invariant-loop-i
invariant-loop-i l = (l._i ≤ l.n) × (l.s < l.slots) × (l.count ≤ l._i) × (l.count + ends_in l.marks l.slots (l.n - l._i) l.s ≡ ends_in l.marks l.slots l.n l.from)
