-- `store::units::unit_of` meets its contract. The invariant: what was passed and the unit from here on make the whole.
use Prim.Native.Nat.{◌≤◌, ◌<◌, ◌-◌, ◌+◌}
use mathlib.Core.Path.{◌≡◌}
use Rattle.store.specs.Store.{unit_of}
use Rattle.store.proofs.units.unit_of.Given as goal

abbrev pub invariant-loop-i : goal.invariant-loop-i
invariant-loop-i l = (l.i ≤ l.n) × (l.s < l.slots) × (l.i + unit_of l.marks l.slots (l.n - l.i) l.s ≡ unit_of l.marks l.slots l.n l.from)
