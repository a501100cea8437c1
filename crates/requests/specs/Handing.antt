-- The hand-out of the packet that goes next, of the channel and the rank that were chosen (document 01, Sending).
use Rattle.std.specs.Prelude.{length}
use Rattle.walks.specs.Serving.{works}
use Rattle.channel.specs.declared.record.Node.{Node}
use Rattle.sender_packets.specs.HandingOut.{hand_step, hand_out}
use Rattle.table.specs.Serving.{Step}

unfoldable pub next_for : Node → Step
next_for node c rank mem lens out = works (hand_step c lens rank (length out)) mem lens (hand_out node c lens mem rank out)
