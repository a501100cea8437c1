-- `sender::ticking::lower_all` meets its contract: the invariant: the timers that were passed are lowered.
use Rattle.std.proofs.Common.{◌≡◌, ◌++◌, take, drop}
use mathlib.Core.List.{map}
use Rattle.sender.specs.Ticking.{lowered}
use Rattle.sender.proofs.ticking.lower_all.Given as goal

abbrev pub invariant-loop-ticks : goal.invariant-loop-ticks
invariant-loop-ticks l = l.ticks-items ≡ map lowered (take l.ticks-index l.fn.left) ++ drop l.ticks-index l.fn.left
