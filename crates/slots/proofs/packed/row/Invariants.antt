-- `slots::packed::row` meets its contract. The invariant: all marks that were passed are set.
use mathlib.Core.Path.{◌≡◌}
use Rattle.slots.specs.Packed.{row_of}
use Rattle.slots.proofs.packed.row.Given as goal

abbrev pub invariant-loop-count : goal.invariant-loop-count
invariant-loop-count l = row_of l.marks l.count l.from ≡ l.count
