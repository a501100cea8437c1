-- `requests::steps::reclaim_step` meets its contract: the parts are cut out and read.
use mathlib.Core.Path.{ap, ◌∙◌}
use borrow.Author.Tests.{eq-eqb, ne_eqb}
use lib.Dec.{eqb}
use lib.ListN.{length}
use Rattle.laws.proofs.Choice.{chosen, passed_by}
use Rattle.walks.specs.Serving.{works}
use Rattle.channel.specs.declared.step.Stepped.{Stepped}
use Rattle.channel.specs.Record.{sends}
use Rattle.sender_units.specs.Reclaiming.{reclaim_step, reclaim_out}
use Rattle.table.proofs.Parts.{quiet, parts_read}
use Rattle.requests.specs.Requests.{reclaim_for}
use Rattle.requests.proofs.steps.reclaim_step.Goals as goal

pub returns-then-c-ne-SENDS : goal.returns-then-c-ne-SENDS
unfolding reclaim_for
returns-then-c-ne-SENDS c = let a = c.args in ap (λ (x : Stepped). works x a.mem.now a.lens.now a.out.now) c.refused.ensures ∙ quiet reclaim_for a.c a.d a.mem.now a.lens.now a.out.now _ _ (passed_by (eqb a.c.addresses.direction sends) _ _ (ne_eqb _ _ c.if-c-ne-SENDS.true))

pub returns : goal.returns
unfolding reclaim_for
returns c = let a = c.args in parts_read reclaim_for a.c a.d a.mem.now a.lens.now a.out.now _ _ _ _ c.octets.ensures c.slots.ensures (λ l. reclaim_step a.c l (length a.out.now)) (λ l m. reclaim_out a.c l m a.out.now) _ _ c.reclaim_step.ensures.0 c.reclaim_step.ensures.1 (chosen (eqb a.c.addresses.direction sends) _ _ (eq-eqb _ _ c.if-c-ne-SENDS.false))
