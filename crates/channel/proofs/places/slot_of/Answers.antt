-- `channel::places::slot_of` meets its contract.
use Rattle.std.proofs.Common.{refl}
use Rattle.channel.specs.Places.{slot_in}
use Rattle.channel.proofs.places.slot_of.Goals as goal

pub returns : goal.returns
unfolding slot_in
returns c = refl
