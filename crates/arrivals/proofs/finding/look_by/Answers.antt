-- `arrivals::finding::look_by` meets its contract: case by case.
use mathlib.Core.Path.{sym, ◌∙◌}
use Rattle.arrivals.proofs.FindLaws.{prefix_lies}
use Rattle.arrivals.proofs.finding.look_by.Goals as goal

pub prefix_of-prefix-requires : goal.prefix_of-prefix-requires
prefix_of-prefix-requires c = prefix_lies c.args.packet.now _ _ _ _ (sym c.requires ∙ c.in-Ok.is)
