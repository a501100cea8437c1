-- `settings::configuring::settings` meets its contract: settings that are those of the table fill it.
use Rattle.std.proofs.Common.{◌∙◌, sym}
use Rattle.settings.proofs.AgreeLaws.{settled_is}
use Rattle.settings.proofs.configuring.settings.Goals as goal

pub fill-requires : goal.fill-requires
fill-requires c = let a = c.args in (settled_is a.t.now a.mem.now a.lens.now a.lines.now a.s.now (sym c.is_settled.ensures.settled ∙ c.if-not-is_settled.false)).count

pub clear-requires : goal.clear-requires
clear-requires c = let a = c.args in (settled_is a.t.now a.mem.now a.lens.now a.lines.now a.s.now (sym c.is_settled.ensures.settled ∙ c.if-not-is_settled.false)).lined
