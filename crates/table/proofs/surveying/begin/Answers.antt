-- `table::surveying::begin` meets its contract: by the test of the lines.
use mathlib.Core.Path.{sym, ◌∙◌}
use Rattle.lines.proofs.FitLaws.{fit_facts}
use Rattle.table.proofs.surveying.begin.Goals as goal

pub read-requires : goal.read-requires
read-requires c = (fit_facts 16 c.args.lines.now (sym c.is_fit.ensures ∙ c.if-is_fit.true)).size
