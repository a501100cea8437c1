-- `requests::steps::take_step` meets its contract: the parts are cut out and read.
use mathlib.Core.Path.{ap, ◌∙◌}
use borrow.Author.Tests.{eq-eqb, ne_eqb}
use lib.Dec.{eqb}
use lib.ListN.{length}
use Rattle.laws.proofs.Choice.{chosen, passed_by}
use Rattle.walks.specs.Serving.{works}
use Rattle.channel.specs.declared.step.Stepped.{Stepped}
use Rattle.channel.specs.Record.{receives}
use Rattle.receiver_data.specs.Taking.{take_step, take_out}
use Rattle.table.proofs.Parts.{quiet, parts_read}
use Rattle.requests.specs.Requests.{take_for}
use Rattle.requests.proofs.steps.take_step.Goals as goal

pub returns-then-c-ne-RECEIVES : goal.returns-then-c-ne-RECEIVES
unfolding take_for
returns-then-c-ne-RECEIVES c = let a = c.args in ap (λ (x : Stepped). works x a.mem.now a.lens.now a.out.now) c.refused.ensures ∙ quiet take_for a.c a.d a.mem.now a.lens.now a.out.now _ _ (passed_by (eqb a.c.addresses.direction receives) _ _ (ne_eqb _ _ c.if-c-ne-RECEIVES.true))

pub returns : goal.returns
unfolding take_for
returns c = let a = c.args in parts_read take_for a.c a.d a.mem.now a.lens.now a.out.now _ _ _ _ c.octets.ensures c.slots.ensures (λ l. take_step a.c l (length a.out.now)) (λ l m. take_out a.c l m a.out.now) _ _ c.take_step.ensures.0 c.take_step.ensures.1 (chosen (eqb a.c.addresses.direction receives) _ _ (eq-eqb _ _ c.if-c-ne-RECEIVES.false))
