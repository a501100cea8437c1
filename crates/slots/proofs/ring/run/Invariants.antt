-- `slots::ring::run` meets its contract. The invariant: what was passed and the run from here on make the whole run.
use Prim.Native.Nat.{◌≤◌, ◌<◌, ◌-◌, ◌+◌}
use mathlib.Core.Path.{◌≡◌}
use Rattle.slots.specs.Ring.{run_of}
use Rattle.slots.proofs.ring.run.Given as goal

abbrev pub invariant-loop-count : goal.invariant-loop-count
invariant-loop-count l = (l.count ≤ l.n) × (l.s < l.slots) × (l.count + run_of l.marks l.slots (l.n - l.count) l.s ≡ run_of l.marks l.slots l.n l.from)

abbrev pub decreases-loop-count : goal.decreases-loop-count
decreases-loop-count l = l.n - l.count
