-- What is shown beside demand 3, for those who ask how full the slots get: how the two windows lie, and how far behind the receiver's start an unfinished unit reaches.
use Rattle.std.specs.Prelude.{◌+◌, ◌≤◌, ◌≡◌, []}
use Rattle.protocol.specs.Ends.{Limits}
use Rattle.protocol.specs.Receiving.{Receiver, start_of, waiting}
use Rattle.protocol.specs.Delivery.{Run}

-- the receiver's start is never behind the sender's, and at most a window past it
pub record WindowsNear (c : Limits) (w : Run) : Type 0 where
  pub ahead : w.sender.start ≤ start_of w.receiver
  pub near : start_of w.receiver ≤ w.sender.start + c.window

-- where no complete unit waits, the oldest segment not yet taken is less than M behind the receiver's start
abbrev pub OneUnitBehind : Limits → Receiver → Type 0
OneUnitBehind c r = waiting r ≡ [] → start_of r + 1 ≤ r.oldest + c.segments
