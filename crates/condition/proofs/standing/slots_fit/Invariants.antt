-- `condition::standing::slots_fit` meets its contract: the invariant: what is found so far, and that the slots that are left fit, is that all do.
use Rattle.std.proofs.Common.{◌≡◌, ◌-◌, ◌&&◌}
use Rattle.channel.specs.Places.{slot_in}
use Rattle.channel.specs.Standing.{slots_fit}
use Rattle.condition.proofs.standing.slots_fit.Given as goal

abbrev pub invariant-loop-i : goal.invariant-loop-i
invariant-loop-i l =
    (l.fit && slots_fit (slot_in l.limits) l.sending l.limits.payload l.marks l.lens (l.limits.slots - l.i) l.i)
    ≡ slots_fit (slot_in l.limits) l.sending l.limits.payload l.marks l.lens l.limits.slots 0
