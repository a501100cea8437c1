-- `slots::ring::clear` meets its contract. The invariant: to clear what is left is to clear the whole.
use Prim.Native.Nat.{◌<◌, ◌-◌}
use mathlib.Core.Path.{◌≡◌}
use Rattle.slots.specs.Ring.{cleared}
use Rattle.slots.proofs.ring.clear.Given as goal

abbrev pub invariant-loop : goal.invariant-loop
invariant-loop l = (l.s < l.slots) × (cleared l.marks l.slots (l.n - l.counter) l.s ≡ cleared l.fn.marks l.slots l.n l.from)
