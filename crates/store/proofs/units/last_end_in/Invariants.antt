-- `store::units::last_end_in` meets its contract. The invariant: the last end passed, unless there is one from here on, is the last of all.
use Prim.Native.Nat.{◌≤◌, ◌<◌, ◌-◌}
use mathlib.Core.Path.{◌≡◌}
use Rattle.store.specs.Store.{last_end_in}
use Rattle.store.proofs.Laws.{carried}
use Rattle.store.proofs.units.last_end_in.Given as goal

abbrev pub invariant-loop-i : goal.invariant-loop-i
invariant-loop-i l = (l.i ≤ l.n) × (l.s < l.slots) × (carried l.last l.i (last_end_in l.marks l.slots (l.n - l.i) l.s) ≡ last_end_in l.marks l.slots l.n l.from)
