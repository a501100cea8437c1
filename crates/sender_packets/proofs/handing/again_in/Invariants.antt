-- `sender_packets::handing::again_in` meets its contract: the invariant: what was passed and what is left to pass make the whole.
use Rattle.std.proofs.Common.{◌≡◌, ◌+◌, ◌-◌}
use Rattle.sender_packets.specs.HandingOut.{again_in}
use Rattle.sender_packets.proofs.handing.again_in.Given as goal

abbrev pub invariant-loop-i : goal.invariant-loop-i
invariant-loop-i l = l.i + again_in l.acked l.left l.slots (l.n - l.i) l.s ≡ again_in l.acked l.left l.slots l.n l.from
